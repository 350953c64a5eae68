-- A choice of tokens: where it is made, the tokens that were tested for and not found, and what it says where all were.
use Rattle.std.specs.Prelude.{Bool, true, false, if◌then◌else◌, ℕ, ◌<◌, List, [], ◌∷◌, ◌++◌, map, nat_eq, refl, codes}
use Rattle.std.specs.List.{list_any, AllByRecursion, IsDistinct}
use Rattle.std.specs.Coded.{Coded, code_by, coded×, coded_ℕ, coded_list}
use Rattle.token_core.specs.declared.error.ErrorKind.TheVariants.{Expected}
use Rattle.token_core.specs.Toks.{Bytes}
use Rattle.token_core.specs.Refusal.{Refusal, refusal}
use Rattle.token_core.specs.Stream.{Stream, stream_code}
use Rattle.token_core.specs.Reads.{forked, refused, here, is_done}
use Rattle.token_core.specs.TokenNames.{name_of, token_count}

pub record Looks : Type 0 where
  pub input : Stream
  -- by their numbers, in the order of the tests, each once
  pub missing : List ℕ

abbrev pub looks_code : Coded Looks
looks_code = code_by (Stream × List ℕ) (coded× stream_code (coded_list coded_ℕ)) (λ l. (l.input, l.missing)) (λ p. record { input = p.0; missing = p.1 }) (λ _. refl)

-- the numbers of tokens that can be tested for, each once
abbrev pub Known : List ℕ → Type 0
Known ns = IsDistinct nat_eq ns × AllByRecursion (λ n. n < token_count) ns

abbrev pub begun : Stream → Looks
begun s = record { input = forked s; missing = [] }

-- whether a number is one of these
abbrev pub is_noted : List ℕ → ℕ → Bool
is_noted ns n = list_any (λ m. nat_eq m n) ns

abbrev pub noted : List ℕ → ℕ → List ℕ
noted ns n = if is_noted ns n then ns else ns ++ n ∷ []

-- after a test
abbrev pub tested : Bool → ℕ → Looks → Looks
tested true n l = l
tested false n l = record l { missing = noted l.missing n }

-- each name after a comma
abbrev pub commas : List Bytes → Bytes
commas [] = []
commas (n ∷ ns) = codes ", " ++ (n ++ commas ns)

unfoldable pub choices : List Bytes → Bytes
choices [] = codes "unexpected token"
choices (a ∷ []) = codes "expected " ++ a
choices (a ∷ b ∷ []) = (codes "expected " ++ a) ++ (codes " or " ++ b)
choices (a ∷ b ∷ c ∷ ns) = (codes "expected one of: " ++ a) ++ commas (b ∷ c ∷ ns)

abbrev pub nothing_left : Stream → Refusal
nothing_left s = refusal Expected (codes "unexpected end of input") (here s) (here s)

abbrev pub unmet_at : List Bytes → Stream → Refusal
unmet_at [] s = if is_done s.rest then nothing_left s else refused Expected (choices []) s
unmet_at (n ∷ ns) s = refused Expected (choices (n ∷ ns)) s

abbrev pub unmet : Looks → Refusal
unmet l = unmet_at (map name_of l.missing) l.input
