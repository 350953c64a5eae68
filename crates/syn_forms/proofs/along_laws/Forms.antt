-- Where the read of a form answers, the stream stands further on, over the same of the reads of what the form holds.
use Rattle.std.proofs.Common.{Bool, true, Option, Some, None}
use Rattle.token_core.specs.declared.span.DelimSpan.{DelimSpan}
use Rattle.token_core.specs.declared.tree.Delimiter.{Delimiter}
use Rattle.token_core.specs.declared.tree.Delimiter.TheVariants as d
use Rattle.token_core.specs.Trees.{TokenStream}
use Rattle.token_core.specs.Reads.{Reader}
use Rattle.token_core.specs.Tokens as token
use Rattle.token_core.specs.Toks.{Toks}
use Rattle.syn_path.specs.declared.path.PathOf.{PathOf}
use Rattle.syn_path.specs.declared.path.PathStyle.{PathStyle}
use Rattle.syn_path.specs.mac.Reading as macs
use Rattle.syn_path.specs.path.Paths.{ModPath}
use Rattle.syn_path.specs.path.Reading as bare
use Rattle.syn_forms.specs.forms.Reading as forms
use Rattle.syn_forms.specs.heads.Reading as heads
use Rattle.syn_forms.specs.inputs.Reading as inputs
use Rattle.syn_forms.specs.lists.Reading as lists
use Rattle.syn_forms.specs.params.Reading as params
use Rattle.syn_forms.specs.paths.Reading as paths
use Rattle.syn_forms.specs.tokens.Reading as tokens
use Rattle.syn_path.specs.Took.{Along}
use Rattle.syn_path.proofs.Along.{delimited_along, lifetime, listed_along, mark, string}
use Rattle.syn_forms.proofs.along_laws.Kit.{further}

-- ---- tokens

pub question_along : Along tokens.question
question_along = search further

pub asyncness_along : Along tokens.asyncness
asyncness_along = search further

pub mutable_along : Along tokens.mutable
mutable_along = search further

pub mutability_along : Along tokens.mutability
unfolding tokens.mutability
mutability_along = search further

-- ---- forms, what groups hold, and what stands before a form

module _ {A : Type 0} {value : Reader A} (h : Along value) where
  pub ptr_along : Along (forms.ptr value)
  unfolding forms.ptr
  ptr_along = search (further, mutability_along, h)

  pub reference_along : Along (forms.reference value)
  unfolding forms.reference
  reference_along = search (further, mutable_along, h)

  pub angled_along : Along (heads.angled value)
  unfolding heads.angled
  angled_along = search (further, h)

  pub binder_along : Along (heads.binder value)
  unfolding heads.binder
  binder_along = search (further, angled_along)

  pub arrow_along : Along (heads.arrow value)
  unfolding heads.arrow
  arrow_along = search (further, h)

  pub returned_along : Along (heads.returned value)
  returned_along = search (further, arrow_along)

pub abi_along : Along heads.abi
unfolding heads.abi
abi_along = search (further, string)

pub optional_abi_along : Along heads.optional_abi
optional_abi_along = search (further, abi_along)

pub fn_head_along : Along heads.fn_head
unfolding heads.fn_head
fn_head_along = search (further, optional_abi_along)

-- ---- arguments

pub signature_along : {A I : Type 0} (make : A → I) (value : Reader A) {output : Reader A} → Along output → Along (inputs.signature make value output)
unfolding inputs.signature
signature_along make value h = search (further, returned_along, h)

-- ---- bounds

module _ {B : Type 0} {bound : Reader B} (h : Along bound) where
  pub bounds_along : (consts plus : Bool) → Along (lists.bounds bound consts plus)
  bounds_along = search (further, h)

  pub bounds_from_along : (consts plus : Bool) (x : B) → Along (lists.bounds_from bound consts plus x)
  bounds_from_along = search (further, h)

  pub each_bound_from_along : (x : B) → Along (lists.each_bound_from bound x)
  each_bound_from_along = search (further, h)

  pub bounds_to_along : (ends : Toks → Bool) → Along (lists.bounds_to bound ends)
  bounds_to_along = search (further, h)

  pub bounds_after_along : (ends : Toks → Bool) (c : Option token.Colon) → Along (params.bounds_after ends bound c)
  bounds_after_along ends None = search further
  bounds_after_along ends (Some c) = search (further, bounds_to_along)

-- ---- parameters and predicates

pub given_along : {A : Type 0} {value : Reader A} → Along value → Along (params.given value)
unfolding params.given
given_along h = search (further, h)

pub default_of_along : {A : Type 0} {value : Reader A} → Along value → Along (params.default_of value)
default_of_along h = search (further, given_along, h)

pub lifetime_parts_along : Along params.lifetime_parts
unfolding params.lifetime_parts
lifetime_parts_along = search (further, bounds_after_along lifetime)

pub type_parts_along : {B T : Type 0} {bound : Reader B} {typ : Reader T} → Along bound → Along typ → Along (params.type_parts bound typ)
unfolding params.type_parts
type_parts_along h g = search (further, bounds_after_along, h, default_of_along, g)

pub const_parts_along : {T E : Type 0} {typ : Reader T} {value : Reader E} → Along typ → Along value → Along (params.const_parts typ value)
unfolding params.const_parts
const_parts_along h g = search (further, h, default_of_along, g) depth 9

-- ---- paths without arguments, and calls of macros

pub leading_along : Along bare.leading
unfolding bare.leading
leading_along = search further

pub held_along : (b : Delimiter) (s : DelimSpan) (c : TokenStream) → Along (macs.held b s c)
held_along d.Parenthesis s c = search further
held_along d.Brace s c = search further
held_along d.Bracket s c = search further
held_along d.None s c = search further

pub body_along : Along macs.body
unfolding macs.body
body_along = search (further, delimited_along, held_along)

pub call_after_along : (p : ModPath) → Along (macs.call_after p)
unfolding macs.call_after
call_after_along = search (further, body_along)

-- ---- paths with arguments

module _ {G : Type 0} (none : G) {arguments : Reader G} (h : Along arguments) where
  pub segment_along : (style : PathStyle) → Along (paths.segment none arguments style)
  unfolding paths.segment
  segment_along = search (further, h)

  pub segments_along : (more : Toks → Bool) (style : PathStyle) → Along (paths.segments none arguments more style)
  segments_along more style = listed_along _ {value = λ _. paths.segment none arguments style} _ (λ _. segment_along style) mark true

  pub path_along : (style : PathStyle) → Along (paths.path none arguments style)
  unfolding paths.path
  path_along = search (further, leading_along, segments_along)

  pub rest_along : (style : PathStyle) (p : PathOf G) → Along (paths.rest none arguments style p)
  unfolding paths.rest
  rest_along = search (further, segments_along)

  pub as_path_along : Along (paths.as_path none arguments)
  unfolding paths.as_path
  as_path_along = search (further, path_along)

  module _ {T : Type 0} {typ : Reader T} (k : Along typ) where
    pub qualified_along : (style : PathStyle) → Along (paths.qualified typ none arguments style)
    unfolding paths.qualified
    qualified_along = search (further, k, as_path_along, segments_along) depth 9

    pub maybe_qualified_along : (style : PathStyle) → Along (paths.maybe_qualified typ none arguments style)
    unfolding paths.maybe_qualified
    maybe_qualified_along = search (further, qualified_along, path_along)
