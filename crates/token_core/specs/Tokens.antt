-- The marks and words by their names: their types, what a test for one sees, and their readers.
use Rattle.std.specs.Prelude.{ℕ, Bool, List}
use Rattle.token_core.specs.declared.mark.Mark.{Mark}
use Rattle.token_core.specs.declared.word.Word.{Word}
use Rattle.token_core.specs.Toks.{Bytes, Toks}
use Rattle.token_core.specs.Marks.{chars_of, text_of, read, read_named}
use Rattle.token_core.specs.Reads.{Reader, is_text, sees_mark, sees_word}

-- ---- characters of marks

-- `!`
abbrev pub bang_char : ℕ
bang_char = 33

-- `#`
abbrev pub pound_char : ℕ
pound_char = 35

-- `+`
abbrev pub plus_char : ℕ
plus_char = 43

-- `,`
abbrev pub comma_char : ℕ
comma_char = 44

-- `-`
abbrev pub minus_char : ℕ
minus_char = 45

-- `:`
abbrev pub colon_char : ℕ
colon_char = 58

-- `;`
abbrev pub semi_char : ℕ
semi_char = 59

-- ---- marks

-- `!`
abbrev pub Bang : Type 0
Bang = Mark 0 1

abbrev pub sees_bang : Toks → Bool
sees_bang = sees_mark (chars_of 0)

abbrev pub bang : Reader (Mark 0 1)
bang = read 0 1

-- `::`
abbrev pub PathSep : Type 0
PathSep = Mark 1 2

abbrev pub path_sep_chars : List ℕ
path_sep_chars = chars_of 1

abbrev pub sees_path_sep : Toks → Bool
sees_path_sep = sees_mark (chars_of 1)

abbrev pub path_sep : Reader (Mark 1 2)
path_sep = read 1 2

-- `<`
abbrev pub Lt : Type 0
Lt = Mark 2 1

abbrev pub sees_lt : Toks → Bool
sees_lt = sees_mark (chars_of 2)

abbrev pub lt : Reader (Mark 2 1)
lt = read 2 1

-- `>`
abbrev pub Gt : Type 0
Gt = Mark 3 1

abbrev pub sees_gt : Toks → Bool
sees_gt = sees_mark (chars_of 3)

abbrev pub gt : Reader (Mark 3 1)
gt = read 3 1

-- `,`
abbrev pub Comma : Type 0
Comma = Mark 4 1

abbrev pub sees_comma : Toks → Bool
sees_comma = sees_mark (chars_of 4)

abbrev pub comma : Reader (Mark 4 1)
comma = read 4 1

-- `&`
abbrev pub And : Type 0
And = Mark 5 1

abbrev pub sees_and : Toks → Bool
sees_and = sees_mark (chars_of 5)

abbrev pub and : Reader (Mark 5 1)
and = read 5 1

-- `@`
abbrev pub At : Type 0
At = Mark 6 1

abbrev pub sees_at : Toks → Bool
sees_at = sees_mark (chars_of 6)

abbrev pub at : Reader (Mark 6 1)
at = read 6 1

-- `:`
abbrev pub Colon : Type 0
Colon = Mark 7 1

abbrev pub sees_colon : Toks → Bool
sees_colon = sees_mark (chars_of 7)

abbrev pub colon : Reader (Mark 7 1)
colon = read 7 1

-- `..`
abbrev pub DotDot : Type 0
DotDot = Mark 8 2

abbrev pub sees_dot_dot : Toks → Bool
sees_dot_dot = sees_mark (chars_of 8)

abbrev pub dot_dot : Reader (Mark 8 2)
dot_dot = read 8 2

-- `...`
abbrev pub DotDotDot : Type 0
DotDotDot = Mark 9 3

abbrev pub sees_dot_dot_dot : Toks → Bool
sees_dot_dot_dot = sees_mark (chars_of 9)

abbrev pub dot_dot_dot : Reader (Mark 9 3)
dot_dot_dot = read 9 3

-- `..=`
abbrev pub DotDotEq : Type 0
DotDotEq = Mark 10 3

-- `=`
abbrev pub Equals : Type 0
Equals = Mark 11 1

abbrev pub sees_equals : Toks → Bool
sees_equals = sees_mark (chars_of 11)

abbrev pub equals : Reader (Mark 11 1)
equals = read 11 1

-- `==`
abbrev pub sees_equals_equals : Toks → Bool
sees_equals_equals = sees_mark (chars_of 12)

-- `=>`
abbrev pub FatArrow : Type 0
FatArrow = Mark 13 2

abbrev pub sees_fat_arrow : Toks → Bool
sees_fat_arrow = sees_mark (chars_of 13)

-- `<=`
abbrev pub Le : Type 0
Le = Mark 14 2

abbrev pub sees_le : Toks → Bool
sees_le = sees_mark (chars_of 14)

abbrev pub le : Reader (Mark 14 2)
le = read 14 2

-- `-`
abbrev pub Minus : Type 0
Minus = Mark 15 1

abbrev pub sees_minus : Toks → Bool
sees_minus = sees_mark (chars_of 15)

abbrev pub minus : Reader (Mark 15 1)
minus = read 15 1

-- `!=`
abbrev pub Ne : Type 0
Ne = Mark 16 2

abbrev pub sees_ne : Toks → Bool
sees_ne = sees_mark (chars_of 16)

abbrev pub ne : Reader (Mark 16 2)
ne = read 16 2

-- `|`
abbrev pub Bar : Type 0
Bar = Mark 17 1

abbrev pub sees_bar : Toks → Bool
sees_bar = sees_mark (chars_of 17)

abbrev pub bar : Reader (Mark 17 1)
bar = read 17 1

-- `|=`
abbrev pub sees_bar_eq : Toks → Bool
sees_bar_eq = sees_mark (chars_of 18)

-- `||`
abbrev pub sees_bar_bar : Toks → Bool
sees_bar_bar = sees_mark (chars_of 19)

-- `+`
abbrev pub Plus : Type 0
Plus = Mark 20 1

abbrev pub plus_chars : List ℕ
plus_chars = chars_of 20

abbrev pub sees_plus : Toks → Bool
sees_plus = sees_mark (chars_of 20)

abbrev pub plus : Reader (Mark 20 1)
plus = read 20 1

-- `#`
abbrev pub Pound : Type 0
Pound = Mark 21 1

abbrev pub sees_pound : Toks → Bool
sees_pound = sees_mark (chars_of 21)

abbrev pub pound : Reader (Mark 21 1)
pound = read 21 1

-- `?`
abbrev pub Question : Type 0
Question = Mark 22 1

abbrev pub sees_question : Toks → Bool
sees_question = sees_mark (chars_of 22)

abbrev pub question : Reader (Mark 22 1)
question = read 22 1

-- `->`
abbrev pub RArrow : Type 0
RArrow = Mark 23 2

abbrev pub sees_r_arrow : Toks → Bool
sees_r_arrow = sees_mark (chars_of 23)

abbrev pub r_arrow : Reader (Mark 23 2)
r_arrow = read 23 2

-- `;`
abbrev pub Semi : Type 0
Semi = Mark 24 1

abbrev pub semi_chars : List ℕ
semi_chars = chars_of 24

abbrev pub sees_semi : Toks → Bool
sees_semi = sees_mark (chars_of 24)

abbrev pub semi : Reader (Mark 24 1)
semi = read 24 1

-- `<<=`
abbrev pub ShlEq : Type 0
ShlEq = Mark 25 3

abbrev pub sees_shl_eq : Toks → Bool
sees_shl_eq = sees_mark (chars_of 25)

-- `*`
abbrev pub Star : Type 0
Star = Mark 26 1

abbrev pub sees_star : Toks → Bool
sees_star = sees_mark (chars_of 26)

abbrev pub star : Reader (Mark 26 1)
star = read 26 1

-- ---- words

-- `Self`
abbrev pub SelfType : Type 0
SelfType = Word 0

abbrev pub self_type_text : Bytes
self_type_text = text_of 0

abbrev pub sees_self_type : Toks → Bool
sees_self_type = sees_word (is_text (text_of 0))

-- `self`
abbrev pub SelfValue : Type 0
SelfValue = Word 1

abbrev pub self_value_text : Bytes
self_value_text = text_of 1

abbrev pub sees_self_value : Toks → Bool
sees_self_value = sees_word (is_text (text_of 1))

abbrev pub self_value : Reader (Word 1)
self_value = read_named 1

-- `super`
abbrev pub Super : Type 0
Super = Word 2

abbrev pub super_text : Bytes
super_text = text_of 2

abbrev pub sees_super : Toks → Bool
sees_super = sees_word (is_text (text_of 2))

-- `crate`
abbrev pub Crate : Type 0
Crate = Word 3

abbrev pub crate_text : Bytes
crate_text = text_of 3

abbrev pub sees_crate : Toks → Bool
sees_crate = sees_word (is_text (text_of 3))

-- `as`
abbrev pub As : Type 0
As = Word 4

abbrev pub sees_as : Toks → Bool
sees_as = sees_word (is_text (text_of 4))

abbrev pub as_word : Reader (Word 4)
as_word = read_named 4

-- `box`
abbrev pub Box : Type 0
Box = Word 5

abbrev pub sees_box : Toks → Bool
sees_box = sees_word (is_text (text_of 5))

abbrev pub box_word : Reader (Word 5)
box_word = read_named 5

-- `const`
abbrev pub Const : Type 0
Const = Word 6

abbrev pub const_text : Bytes
const_text = text_of 6

abbrev pub sees_const : Toks → Bool
sees_const = sees_word (is_text (text_of 6))

abbrev pub const_word : Reader (Word 6)
const_word = read_named 6

-- `dyn`
abbrev pub Dyn : Type 0
Dyn = Word 7

abbrev pub dyn_text : Bytes
dyn_text = text_of 7

abbrev pub sees_dyn : Toks → Bool
sees_dyn = sees_word (is_text (text_of 7))

abbrev pub dyn_word : Reader (Word 7)
dyn_word = read_named 7

-- `extern`
abbrev pub Extern : Type 0
Extern = Word 8

abbrev pub extern_text : Bytes
extern_text = text_of 8

abbrev pub sees_extern : Toks → Bool
sees_extern = sees_word (is_text (text_of 8))

abbrev pub extern_word : Reader (Word 8)
extern_word = read_named 8

-- `fn`
abbrev pub Fn : Type 0
Fn = Word 9

abbrev pub fn_text : Bytes
fn_text = text_of 9

abbrev pub sees_fn : Toks → Bool
sees_fn = sees_word (is_text (text_of 9))

abbrev pub fn_word : Reader (Word 9)
fn_word = read_named 9

-- `for`
abbrev pub For : Type 0
For = Word 10

abbrev pub for_text : Bytes
for_text = text_of 10

abbrev pub sees_for : Toks → Bool
sees_for = sees_word (is_text (text_of 10))

abbrev pub for_word : Reader (Word 10)
for_word = read_named 10

-- `if`
abbrev pub If : Type 0
If = Word 11

abbrev pub if_text : Bytes
if_text = text_of 11

abbrev pub sees_if : Toks → Bool
sees_if = sees_word (is_text (text_of 11))

abbrev pub if_word : Reader (Word 11)
if_word = read_named 11

-- `impl`
abbrev pub Impl : Type 0
Impl = Word 12

abbrev pub sees_impl : Toks → Bool
sees_impl = sees_word (is_text (text_of 12))

abbrev pub impl_word : Reader (Word 12)
impl_word = read_named 12

-- `mut`
abbrev pub Mut : Type 0
Mut = Word 13

abbrev pub mut_text : Bytes
mut_text = text_of 13

abbrev pub sees_mut : Toks → Bool
sees_mut = sees_word (is_text (text_of 13))

abbrev pub mut_word : Reader (Word 13)
mut_word = read_named 13

-- `ref`
abbrev pub Ref : Type 0
Ref = Word 14

abbrev pub sees_ref : Toks → Bool
sees_ref = sees_word (is_text (text_of 14))

abbrev pub ref_word : Reader (Word 14)
ref_word = read_named 14

-- `try`
abbrev pub Try : Type 0
Try = Word 15

abbrev pub try_text : Bytes
try_text = text_of 15

abbrev pub sees_try : Toks → Bool
sees_try = sees_word (is_text (text_of 15))

-- `unsafe`
abbrev pub Unsafe : Type 0
Unsafe = Word 16

abbrev pub unsafe_text : Bytes
unsafe_text = text_of 16

abbrev pub sees_unsafe : Toks → Bool
sees_unsafe = sees_word (is_text (text_of 16))

abbrev pub unsafe_word : Reader (Word 16)
unsafe_word = read_named 16

-- `use`
abbrev pub Use : Type 0
Use = Word 17

abbrev pub sees_use : Toks → Bool
sees_use = sees_word (is_text (text_of 17))

abbrev pub use_word : Reader (Word 17)
use_word = read_named 17

-- `where`
abbrev pub Where : Type 0
Where = Word 18

abbrev pub sees_where : Toks → Bool
sees_where = sees_word (is_text (text_of 18))

abbrev pub where_word : Reader (Word 18)
where_word = read_named 18

-- `_`
abbrev pub Underscore : Type 0
Underscore = Word 19

abbrev pub underscore_text : Bytes
underscore_text = text_of 19

abbrev pub sees_underscore : Toks → Bool
sees_underscore = sees_word (is_text (text_of 19))

abbrev pub underscore : Reader (Word 19)
underscore = read_named 19

-- `async`
abbrev pub Async : Type 0
Async = Word 21

abbrev pub sees_async : Toks → Bool
sees_async = sees_word (is_text (text_of 21))

abbrev pub async_word : Reader (Word 21)
async_word = read_named 21

-- `enum`
abbrev pub Enum : Type 0
Enum = Word 28

abbrev pub sees_enum : Toks → Bool
sees_enum = sees_word (is_text (text_of 28))

abbrev pub enum_word : Reader (Word 28)
enum_word = read_named 28

-- `in`
abbrev pub In : Type 0
In = Word 31

abbrev pub sees_in : Toks → Bool
sees_in = sees_word (is_text (text_of 31))

abbrev pub in_word : Reader (Word 31)
in_word = read_named 31

-- `pub`
abbrev pub Pub : Type 0
Pub = Word 40

abbrev pub sees_pub : Toks → Bool
sees_pub = sees_word (is_text (text_of 40))

abbrev pub pub_word : Reader (Word 40)
pub_word = read_named 40

-- `struct`
abbrev pub Struct : Type 0
Struct = Word 43

abbrev pub sees_struct : Toks → Bool
sees_struct = sees_word (is_text (text_of 43))

abbrev pub struct_word : Reader (Word 43)
struct_word = read_named 43

-- `union`
abbrev pub Union : Type 0
Union = Word 53

abbrev pub sees_union : Toks → Bool
sees_union = sees_word (is_text (text_of 53))

abbrev pub union_word : Reader (Word 53)
union_word = read_named 53
