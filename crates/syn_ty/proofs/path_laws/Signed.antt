-- The path of a trait and its signature, in two steps: the `::` with the signature, and the path with it.
use Rattle.std.proofs.Common.{◌≡◌, true, ◌&&◌, if◌then◌else◌, Option, Ok, Err, refl, ap, ◌∙◌}
use Rattle.syn_ty.proofs.ty_laws.words.Tokens.{Outcome, Reader, ◌>>=◌, and_then, optional, pure, Refusal, Stream}
use Rattle.syn_ty.proofs.ty_laws.words.Paths.{sees_sep, sep}
use Rattle.syn_ty.proofs.ty_laws.words.Types.{Sep, parenthesized, sees_signature, signed, takes_signature, Readers, Parenthesized, Path}
use Rattle.syn_forms.specs.paths.Reading as paths
use Rattle.syn_ty.specs.declared.path.PathArgumentsOf.TheVariants as a

module _ {A E : Type 0} (r : Readers A E) (p : Path A E) where
  abbrev with_signature : Parenthesized A E → Reader (Path A E)
  with_signature x = pure (paths.path_with (a.Parenthesized x) p)

  abbrev after_sep : Option Sep → Reader (Path A E)
  after_sep c = parenthesized r >>= with_signature

  -- the two steps may be read in one
  joined : (o : Outcome (Option Sep)) → and_then o after_sep ≡ and_then (and_then o (λ c. parenthesized r)) with_signature
  joined (Ok q) = refl
  joined (Err e) = refl

  signed_by : (s : Stream) (o : Outcome (Parenthesized A E)) → (takes_signature p && sees_signature s.rest) ≡ true → and_then (optional sees_sep sep s) (λ c. parenthesized r) ≡ o → signed r p s ≡ and_then o with_signature
  unfolding signed
  signed_by s o h f =
      ap (λ b. (if b then (optional sees_sep sep >>= after_sep) else pure p) s) h
      ∙ joined (optional sees_sep sep s)
      ∙ ap (λ z. and_then z with_signature) f

  pub signed_ok : (s u : Stream) (x : Parenthesized A E) → (takes_signature p && sees_signature s.rest) ≡ true → and_then (optional sees_sep sep s) (λ c. parenthesized r) ≡ Ok (x, u) → signed r p s ≡ Ok (paths.path_with (a.Parenthesized x) p, u)
  signed_ok s u x h f = signed_by s (Ok (x, u)) h f

  pub signed_err : (s : Stream) (z : Refusal) → (takes_signature p && sees_signature s.rest) ≡ true → and_then (optional sees_sep sep s) (λ c. parenthesized r) ≡ Err z → signed r p s ≡ Err z
  signed_err s z h f = signed_by s (Err z) h f

pub ruleset steps = (signed_ok, signed_err)
