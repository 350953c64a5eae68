-- A read of a pattern that answers stands further on, where the reads of the patterns within, of paths and of attributes do.
use Rattle.std.proofs.Common.{not, ◌&&◌, ◌||◌, is_some, Option, Some, None}
use Rattle.syn_pat.proofs.pat_laws.words.Tokens.{RangeLimits, DelimSpan, Span, Delimiter, Parenthesis, Brace, Bracket, TokenStream, sees_lit, never, Reader, sees_group}
use Rattle.syn_pat.proofs.pat_laws.words.Paths.{Place, Block, ModPath, PathOf, Along}
use Rattle.syn_pat.proofs.pat_laws.words.Forms.{position}
use Rattle.syn_pat.proofs.pat_laws.words.Types.{sees_call}
use Rattle.syn_pat.proofs.pat_laws.words.Patterns.{PatPlace, Single, Multi, LeadingVert, Element, PatOver, ReadersOver}
use Rattle.token_core.specs.declared.range.RangeLimits.TheVariants as limits
use Rattle.token_core.specs.declared.tree.Delimiter.TheVariants.{None as NoDelimiter}
use Rattle.token_core.specs.Groups as groups
use Rattle.syn_path.specs.mac.Reading as macs
use Rattle.syn_path.specs.path.Paths.{is_mod_style}
use Rattle.syn_pat.specs.declared.pat.PatOf.TheVariants as v
use Rattle.syn_pat.specs.pat.Pats.{RangeBoundOver}
use Rattle.syn_pat.specs.pat.Reading as reading
use Rattle.syn_pat.specs.pat.Reading.{Named}
use Rattle.token_core.specs.Tokens as token
use Rattle.syn_path.proofs.Along.{bind, delimited_along, either, in_group_along, literal, made, mark, named, old_range_limits, optional_along, range_limits, refused, stays, word}
use Rattle.syn_forms.proofs.along_laws.Kit.{brackets_along, held_since, list_from_along, parens_along}

-- ---- tokens before what a pattern holds

pub name_along : Along reading.bound_name
unfolding reading.bound_name
name_along = either (λ z. token.sees_self_value z.rest) (word _ _) (word _ _)

pub ref_along : Along reading.by_ref
ref_along = optional_along token.sees_ref named

pub modes_along : Along reading.modes
unfolding reading.modes
modes_along = bind (optional_along token.sees_box named) (λ b. bind ref_along (λ f. bind (optional_along token.sees_mut named) (λ u. (stays _))))

head_along : Along reading.bound_head
unfolding reading.bound_head
head_along = bind ref_along (λ f. bind (optional_along token.sees_mut named) (λ u. bind name_along (λ i. stays _)))

-- ---- macro calls

calls_along : (d : Delimiter) (s : DelimSpan) (c : TokenStream) → Along (macs.held d s c)
calls_along Parenthesis s c = stays _
calls_along Brace s c = stays _
calls_along Bracket s c = stays _
calls_along NoDelimiter s c = refused _

body_along : Along macs.body
unfolding macs.body
body_along = bind delimited_along (λ b. calls_along b.0 b.1 b.2)

call_along : (p : ModPath) → Along (macs.call_after p)
unfolding macs.call_after
call_along p = bind (mark {n = 0} {l = 1}) (λ b. bind body_along (λ h. (stays _)))

-- ---- bounds and ranges

module _ {X : Type 0} (supplied : Place → Reader X) where
  block_along : Along (reading.const_block supplied)
  unfolding reading.const_block
  block_along = bind (named {n = 6}) (λ w. bind (made _ (in_group_along Brace groups.brace_name (supplied Block))) (λ b. (stays _)))

module _ {X G Q : Type 0} (supplied : Place → Reader X) (names : Named G Q) (path_along : Along names.path) where
  bound_along : Along (reading.bound supplied names)
  unfolding reading.bound
  bound_along = either (λ z. sees_lit z.rest) (made _ literal) (either (λ z. reading.sees_bound_path z.rest) (made _ path_along) (either (λ z. token.sees_const z.rest) (made _ (block_along supplied)) (refused _)))

  optional_bound_along : Along (reading.optional_bound supplied names)
  unfolding reading.optional_bound
  optional_bound_along = either (λ z. reading.ends_range z.rest) (stays _) (made _ bound_along)

module _ {X G Q T : Type 0} where
  ended_along : (o : Option (RangeBoundOver X G Q)) (l : RangeLimits) (f : Option (RangeBoundOver X G Q)) → Along {A = PatOver X G Q T} (reading.ended o l f)
  ended_along o (limits.HalfOpen d) f = stays _
  ended_along o (limits.Closed d) (Some f) = stays _
  ended_along o (limits.Closed d) None = refused _

  half_of_along : (l : RangeLimits) (f : Option (RangeBoundOver X G Q)) → Along {A = PatOver X G Q T} (reading.half_of l f)
  half_of_along (limits.HalfOpen d) None = stays _
  half_of_along (limits.HalfOpen d) (Some f) = stays _
  half_of_along (limits.Closed d) (Some f) = stays _
  half_of_along (limits.Closed d) None = refused _

module _ {X G Q T : Type 0} (supplied : Place → Reader X) (names : Named G Q) (path_along : Along names.path) where
  range_after_along : (x : RangeBoundOver X G Q) → Along {A = PatOver X G Q T} (reading.range_after supplied names x)
  unfolding reading.range_after
  range_after_along x = bind old_range_limits (λ l. bind (optional_bound_along supplied names path_along) (λ f. ended_along (Some x) l f))

  half_open_along : Along {A = PatOver X G Q T} (reading.half_open supplied names)
  unfolding reading.half_open
  half_open_along = bind range_limits (λ l. bind (optional_bound_along supplied names path_along) (λ f. half_of_along l f))

  after_bound_along : (x : RangeBoundOver X G Q) → Along {A = PatOver X G Q T} (reading.after_bound supplied names x)
  unfolding reading.after_bound
  after_bound_along x = either (λ z. token.sees_dot_dot z.rest) (range_after_along x) (stays _)

  bound_or_range_along : Along {A = PatOver X G Q T} (reading.bound_or_range supplied names)
  unfolding reading.bound_or_range
  bound_or_range_along = bind (bound_along supplied names path_along) after_bound_along

-- ---- forms

module _ {X G Q T : Type 0} (r : ReadersOver X G Q T) (within : (p : PatPlace) → Along (r p)) where
  subpat_along : Along (reading.subpat r)
  unfolding reading.subpat
  subpat_along = bind (mark {n = 6} {l = 1}) (λ m. bind (within Single) (λ x. stays _))

  binding_along : Along (reading.binding r)
  unfolding reading.binding
  binding_along = bind head_along (λ h. bind (optional_along token.sees_at subpat_along) (λ o. (stays _)))

  reference_along : Along (reading.reference r)
  unfolding reading.reference
  reference_along = bind (mark {n = 5} {l = 1}) (λ m. bind (optional_along token.sees_mut (named {n = 13})) (λ u. bind (within Single) (λ x. stays _)))

  box_along : Along (reading.box_pat r)
  unfolding reading.box_pat
  box_along = bind (stays position) (λ f. bind (named {n = 5}) (λ w. bind (within Single) (λ x. bind (held_since f) (λ t. stays (λ s. v.Verbatim t)))))

  slice_along : Along (reading.slice r)
  unfolding reading.slice
  slice_along = made _ (brackets_along _)

  parens : Along (reading.paren_or_tuple r)
  unfolding reading.paren_or_tuple
  parens = made _ (parens_along _)

  alternatives_along : (o : Option token.Bar) (x : PatOver X G Q T) → Along (reading.alternatives r o x)
  unfolding reading.alternatives
  alternatives_along o x = either (λ z. is_some o || reading.sees_vert z.rest) (made _ (list_from_along never reading.sees_vert (within Single) (mark {n = 17} {l = 1}) x)) (stays _)

-- ---- single patterns, and patterns in their places

module _ {X G Q T : Type 0} (supplied : Place → Reader X) (names : Named G Q) (path_along : Along names.path) (r : ReadersOver X G Q T) (within : (p : PatPlace) → Along (r p)) where
  after_path_along : (q : Option Q) (p : PathOf G) → Along (reading.after_path supplied names r q p)
  unfolding reading.after_path reading.struct_after reading.tuple_struct_after
  after_path_along q p = either (λ z. not (is_some q) && (sees_call z.rest && is_mod_style names.lacks p)) (made _ (call_along _)) (either (λ z. sees_group Brace z.rest) (made _ (made _ (in_group_along _ _ _)))
      (either (λ z. sees_group Parenthesis z.rest) (made _ (made _ (parens_along _))) (after_bound_along supplied names path_along _)))

  path_pat_along : Along (reading.path_pat supplied names r)
  unfolding reading.path_pat
  path_pat_along = bind path_along (λ p. after_path_along p.0 p.1)

  by_mark_along : Along (reading.by_mark supplied names r)
  unfolding reading.by_mark
  by_mark_along = either (λ z. token.sees_and z.rest) (made _ (reference_along r within)) (either (λ z. sees_group Parenthesis z.rest) (parens r within) (either (λ z. sees_group Bracket z.rest) (made _ (slice_along r within))
      (either (λ z. reading.sees_half_open z.rest) (half_open_along supplied names path_along) (refused _))))

  by_word_along : Along (reading.by_word supplied names r)
  unfolding reading.by_word
  by_word_along = either (λ z. token.sees_underscore z.rest) (made _ (made _ (named {n = 19}))) (either (λ z. token.sees_box z.rest) (box_along r within) (either (λ z. reading.begins_bound z.rest) (bound_or_range_along supplied names path_along)
      (either (λ z. reading.begins_binding z.rest) (made _ (binding_along r within)) by_mark_along)))

  single_along : Along (reading.single supplied names r)
  unfolding reading.single
  single_along = either (λ z. reading.begins_path z.rest) path_pat_along by_word_along

  multi_along : Along (reading.multi supplied names r)
  unfolding reading.multi
  multi_along = bind single_along (λ x. alternatives_along r within None x)

  leading_along : Along (reading.leading supplied names r)
  unfolding reading.leading
  leading_along = bind (optional_along token.sees_bar (mark {n = 17} {l = 1})) (λ o. bind single_along (λ x. alternatives_along r within o x))

  unless_along : (o : Option (Span × Span)) (x : PatOver X G Q T) → Along (reading.unless_open o x)
  unless_along None x = stays _
  unless_along (Some p) x = refused _

  element_along : Along (reading.element supplied names r)
  unfolding reading.element
  element_along = bind leading_along (λ x. unless_along (reading.open_range x) x)

  -- one turn
  pub turn_along : (p : PatPlace) → Along (reading.pat_step supplied names r p)
  turn_along Single = single_along
  turn_along Multi = multi_along
  turn_along LeadingVert = leading_along
  turn_along Element = element_along
