-- What may follow each form on the front of a list: all that does not go on with it, however it ends.
use Rattle.std.specs.Prelude.{◌≡◌, Bool, true, false, not, ◌&&◌, ◌||◌}
use Rattle.token_core.specs.declared.tree.Delimiter.TheVariants.{Parenthesis, Bracket}
use Rattle.token_core.specs.Lifetimes.{sees_lifetime}
use Rattle.token_core.specs.Lits.{sees_str}
use Rattle.token_core.specs.Reads.{any_text, is_done, sees_group, sees_word}
use Rattle.token_core.specs.Tokens as token
use Rattle.token_core.specs.Toks.{Toks}
use Rattle.syn_path.specs.declared.path.PathStyle.{PathStyle}
use Rattle.syn_path.specs.declared.path.PathStyle.TheVariants.{AsWritten}
use Rattle.syn_path.specs.path.Reading.{sees_angle, sees_sep}
use Rattle.syn_forms.specs.declared.places.TypePlace.{TypePlace}
use Rattle.syn_forms.specs.paths.Reading.{goes_on, sees_arguments}
use Rattle.syn_forms.specs.places.Reading.{allows_plus}
use Rattle.syn_ty.specs.path.Reading.{ends_constraint}
use Rattle.syn_ty.specs.ty.Reading.{sees_call}

-- anything
abbrev pub anything : Toks → Bool
anything k = true

-- after a bound, or a type in a place without `+`: no `::`, no `<` of arguments, no `!` of a call, no `->`, `?` or `#`, no lifetime, no parentheses and no brackets
abbrev pub follows_bound : Toks → Bool
follows_bound k =
    not (sees_sep k) && (not (sees_angle k) && (not (sees_call k) && (not (token.sees_r_arrow k) && (not (token.sees_question k) && (not (sees_lifetime k) && (not (sees_group Parenthesis k) && (not (sees_group Bracket k) && not (token.sees_pound k))))))))

-- after a type in a place: where it takes a `+`, no `+` either
abbrev pub follows_type : TypePlace → Toks → Bool
follows_type place k = follows_bound k && not (allows_plus place && token.sees_plus k)

-- after what may end in any manner: no `+` and no word either
abbrev pub follows_bounds : Toks → Bool
follows_bounds k = follows_bound k && (not (token.sees_plus k) && not (sees_word any_text k))

-- after an argument of a function's type: no `:` either
abbrev pub follows_input : Toks → Bool
follows_input k = follows_bounds k && not (token.sees_colon k)

-- after a segment, a path, and a path that may be qualified
abbrev pub follows_segment : Toks → Bool
follows_segment k = not (sees_arguments AsWritten k)

abbrev pub follows_path : PathStyle → Toks → Bool
follows_path style k = not (goes_on k) && not (sees_arguments style k)

abbrev pub follows_qualified : Toks → Bool
follows_qualified k = follows_path AsWritten k && not (sees_sep k)

-- after an argument, and after a parameter
abbrev pub follows_argument : Toks → Bool
follows_argument k = ends_constraint k

abbrev pub follows_param : Toks → Bool
follows_param k = ends_constraint k || is_done k

-- after a binder that may be missing
abbrev pub follows_binder : Toks → Bool
follows_binder k = not (token.sees_for k)

-- after a calling convention, and after one that may be missing
abbrev pub follows_abi : Toks → Bool
follows_abi k = not (sees_str k)

abbrev pub follows_optional_abi : Toks → Bool
follows_optional_abi k = not (token.sees_extern k) && not (sees_str k)

-- What ended before the first may end so before the second: a `+` stands there only where one stood, and a word only where one stood.
pub record Carries (r k : Toks) : Type 0 where
  pub no_plus : token.sees_plus r ≡ false → token.sees_plus k ≡ false
  pub no_word : sees_word any_text r ≡ false → sees_word any_text k ≡ false
