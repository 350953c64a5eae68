use Rattle.std.proofs.Common.{refl, arith}
use Rattle.token_core.specs.Classes.{words_from}
use Rattle.token_core.proofs.Classes.{differs, neither, begun_none}
use Rattle.token_core.proofs.class.numbers_from.Goals as goal

pub returns-in-83 : goal.returns-in-83
unfolding words_from
returns-in-83 c = rw c.in-83.is refl

pub returns-in-95 : goal.returns-in-95
unfolding words_from
returns-in-95 c = rw c.in-95.is refl

pub returns-in-97 : goal.returns-in-97
unfolding words_from
returns-in-97 c = rw c.in-97.is refl

pub returns-in-98 : goal.returns-in-98
unfolding words_from
returns-in-98 c = rw c.in-98.is refl

pub returns-in-99 : goal.returns-in-99
unfolding words_from
returns-in-99 c = rw c.in-99.is refl

pub returns-in-100 : goal.returns-in-100
unfolding words_from
returns-in-100 c = rw c.in-100.is refl

pub returns-in-101 : goal.returns-in-101
unfolding words_from
returns-in-101 c = rw c.in-101.is refl

pub returns-in-102 : goal.returns-in-102
unfolding words_from
returns-in-102 c = rw c.in-102.is refl

pub returns-in-105 : goal.returns-in-105
unfolding words_from
returns-in-105 c = rw c.in-105.is refl

pub returns-in-108 : goal.returns-in-108
unfolding words_from
returns-in-108 c = rw c.in-108.is refl

pub returns-in-109 : goal.returns-in-109
unfolding words_from
returns-in-109 c = rw c.in-109.is refl

pub returns-in-111 : goal.returns-in-111
unfolding words_from
returns-in-111 c = rw c.in-111.is refl

pub returns-in-112 : goal.returns-in-112
unfolding words_from
returns-in-112 c = rw c.in-112.is refl

pub returns-in-114 : goal.returns-in-114
unfolding words_from
returns-in-114 c = rw c.in-114.is refl

pub returns-in-115 : goal.returns-in-115
unfolding words_from
returns-in-115 c = rw c.in-115.is refl

pub returns-in-116 : goal.returns-in-116
unfolding words_from
returns-in-116 c = rw c.in-116.is refl

pub returns-in-117 : goal.returns-in-117
unfolding words_from
returns-in-117 c = rw c.in-117.is refl

pub returns-in-118 : goal.returns-in-118
unfolding words_from
returns-in-118 c = rw c.in-118.is refl

pub returns-in-119 : goal.returns-in-119
unfolding words_from
returns-in-119 c = rw c.in-119.is refl

pub returns-in-121 : goal.returns-in-121
unfolding words_from
returns-in-121 c = rw c.in-121.is refl

pub returns-in_default : goal.returns-in_default
returns-in_default c =
    let b = c.args.first in
    begun_none b
    (neither (differs b 83 (λ e. omega (arith, c.in_default, e)))
    (neither (differs b 95 (λ e. omega (arith, c.in_default, e)))
    (neither (differs b 97 (λ e. omega (arith, c.in_default, e)))
    (neither (differs b 98 (λ e. omega (arith, c.in_default, e)))
    (neither (differs b 99 (λ e. omega (arith, c.in_default, e)))
    (neither (differs b 100 (λ e. omega (arith, c.in_default, e)))
    (neither (differs b 101 (λ e. omega (arith, c.in_default, e)))
    (neither (differs b 102 (λ e. omega (arith, c.in_default, e)))
    (neither (differs b 105 (λ e. omega (arith, c.in_default, e)))
    (neither (differs b 108 (λ e. omega (arith, c.in_default, e)))
    (neither (differs b 109 (λ e. omega (arith, c.in_default, e)))
    (neither (differs b 111 (λ e. omega (arith, c.in_default, e)))
    (neither (differs b 112 (λ e. omega (arith, c.in_default, e)))
    (neither (differs b 114 (λ e. omega (arith, c.in_default, e)))
    (neither (differs b 115 (λ e. omega (arith, c.in_default, e)))
    (neither (differs b 116 (λ e. omega (arith, c.in_default, e)))
    (neither (differs b 117 (λ e. omega (arith, c.in_default, e)))
    (neither (differs b 118 (λ e. omega (arith, c.in_default, e)))
    (neither (differs b 119 (λ e. omega (arith, c.in_default, e)))
    (neither (differs b 121 (λ e. omega (arith, c.in_default, e)))
    refl))))))))))))))))))))
