-- Where the read of a path, of its arguments or of one of them answers, the stream stands further on, over the same of what it holds.
use Rattle.std.proofs.Common.{[], Option, Some, None}
use Rattle.syn_ty.proofs.ty_laws.words.Tokens.{Ident, Reader}
use Rattle.syn_ty.proofs.ty_laws.words.Paths.{PathStyle, ReadValues, Along}
use Rattle.syn_ty.proofs.ty_laws.words.Forms.{Parameter, Plus, NoPlus}
use Rattle.syn_ty.proofs.ty_laws.words.Types.{Sep, ends_constraint, Point, Readers, a_bound, a_type, AngleBracketed, NamedArg, Path, TypeTree, named_arg_of}
use Rattle.syn_ty.specs.path.Reading as reading
use Rattle.token_core.specs.Tokens as token
use Rattle.syn_forms.proofs.along_laws.Forms as forms
use Rattle.syn_path.proofs.Along.{either, made}
use Rattle.syn_forms.proofs.along_laws.Kit.{further}

module _ {A E : Type 0} {r : Readers A E} (al : (q : Point) → Along (r q)) where
  pub arguments_after_along : (c : Option Sep) → Along (reading.arguments_after r c)
  arguments_after_along = search (further, forms.angled_along, al)

  pub angle_bracketed_along : Along (reading.angle_bracketed r)
  unfolding reading.angle_bracketed
  angle_bracketed_along = search (further, arguments_after_along)

  pub arguments_step_along : Along (reading.arguments_step r)
  unfolding reading.arguments_step
  arguments_step_along = search (further, angle_bracketed_along)

  pub path_along : (style : PathStyle) → Along (reading.path r style)
  path_along = search (further, forms.path_along, al)

  pub rest_along : (p : Path A E) → Along (reading.rest r p)
  rest_along = search (further, forms.rest_along, al)

  pub maybe_qualified_along : (style : PathStyle) → Along (reading.maybe_qualified r style)
  maybe_qualified_along = search (further, forms.maybe_qualified_along, al)

  pub parenthesized_along : Along (reading.parenthesized r)
  unfolding reading.parenthesized
  parenthesized_along =
      let make : TypeTree A E → NamedArg A E = named_arg_of [] None in
      search (further, forms.signature_along make (r (a_type Plus)) (al (a_type NoPlus)))

  pub signed_along : (p : Path A E) → Along (reading.signed r p)
  unfolding reading.signed
  signed_along = search (further, parenthesized_along)

module _ {A E : Type 0} (values : ReadValues E) {r : Readers A E} (value : Along values.const_argument) (al : (q : Point) → Along (r q)) where
  pub assoc_along : (i : Ident) (x : Option (AngleBracketed A E)) (e : token.Equals) → Along (reading.assoc values r i x e)
  assoc_along i x e = either _ (made _ value) (made _ (al (a_type Plus)))

  pub constraint_along : (i : Ident) (x : Option (AngleBracketed A E)) (c : token.Colon) → Along (reading.constraint values r i x c)
  constraint_along i x c = made _ (forms.bounds_to_along (al (a_bound Parameter)) ends_constraint)

  pub after_item_along : (t : TypeTree A E) (i : Ident) (x : Option (AngleBracketed A E)) → Along (reading.after_item values r t i x)
  unfolding reading.after_item
  after_item_along t i x = search (further, assoc_along, constraint_along)

  pub after_type_along : (t : TypeTree A E) (o : Option (reading.ItemName A E)) → Along (reading.after_type values r t o)
  after_type_along t None = search further
  after_type_along t (Some n) = search (further, after_item_along)

  pub argument_step_along : {first : Reader (TypeTree A E)} → Along first → Along (reading.argument_step values r first)
  unfolding reading.argument_step
  argument_step_along h = search (further, value, h, after_type_along)
