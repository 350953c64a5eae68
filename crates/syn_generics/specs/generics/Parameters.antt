-- Which lists the generics of a declaration spell.
use Rattle.std.specs.Prelude.{Bool, true, List, Some, None}
use Rattle.token_core.specs.Listed.{AreListed, Anywhere}
use Rattle.token_core.specs.Spellings.{IsMark}
use Rattle.token_core.specs.Toks.{Toks}
use Rattle.syn_forms.specs.declared.places.ParamPlace.TheVariants as params
use Rattle.syn_generics.specs.declared.generics.GenericsOf.{GenericsOf}
use Rattle.syn_generics.specs.generics.Params.{empty, generics_of}
use Rattle.syn_ty.specs.ty.Parts.{Manner, is_clear, Parts}
use Rattle.syn_ty.specs.ty.Trees.{GenericParam}
use Rattle.token_core.specs.Tokens as token

module _ {A E : Type 0} (part : Manner → Parts A E) (how : Manner) where
  -- nothing, or between angle marks parameters joined by commas: there may be none, and the last may have its comma; and no where clause
  pub data AreGenerics : GenericsOf A E → Toks → Toks → Type 0 where
    no_generics : {r : Toks} → AreGenerics empty r r
    some_generics : {o : token.Lt} {xs : List (GenericParam A E)} {cs : List token.Comma} {c : token.Gt} {l m n r : Toks} →
        IsMark (is_clear how) o l m → AreListed (λ (_ : Bool). (part how).param params.Generics) (IsMark (is_clear how)) Anywhere true xs cs m n → IsMark (is_clear how) c n r →
        AreGenerics (generics_of (Some o) (xs, cs) (Some c) None) l r
