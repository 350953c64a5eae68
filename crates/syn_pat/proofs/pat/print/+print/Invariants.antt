use denote.Param.Weighed.{most}
use Rattle.std.proofs.Common.{◌≡◌, ◌+◌, ◌++◌, drop}
use Rattle.std.specs.Slice.Iter.{iter_rest}
use Rattle.token_core.specs.Prints.{Extends}
use Rattle.token_core.specs.Trees.{trees}
use Rattle.syn_pat.specs.pat.Printing.{list, fields, shown}
use Rattle.syn_pat.proofs.pat_laws.Height.{height, sub_by, field_by}
use Rattle.syn_pat.proofs.pat.print.+print.Given as goal

abbrev pub invariant-print_elements-loop-element : goal.invariant-print_elements-loop-element
invariant-print_elements-loop-element g l = record {
  told : trees l.out ++ list g.X.Subtree.prints (shown g.Q.Qualifier.shown g.T.ToTokens.print) (drop l.element-index l.element-items, iter_rest l.commas)
      ≡ trees l.initial.out ++ list g.X.Subtree.prints (shown g.Q.Qualifier.shown g.T.ToTokens.print) l.elems;
  kept : Extends (trees l.initial.out) (trees l.out);
}

abbrev pub invariant-print_cases-loop-case : goal.invariant-print_cases-loop-case
invariant-print_cases-loop-case g l = record {
  told : trees l.out ++ list g.X.Subtree.prints (shown g.Q.Qualifier.shown g.T.ToTokens.print) (drop l.case-index l.case-items, iter_rest l.marks)
      ≡ trees l.initial.out ++ list g.X.Subtree.prints (shown g.Q.Qualifier.shown g.T.ToTokens.print) l.pat.cases;
  kept : Extends (trees l.initial.out) (trees l.out);
}

abbrev pub invariant-print_fields-loop-field : goal.invariant-print_fields-loop-field
invariant-print_fields-loop-field g l = record {
  told : trees l.out ++ fields g.X.Subtree.prints (shown g.Q.Qualifier.shown g.T.ToTokens.print) (drop l.field-index l.field-items, iter_rest l.commas)
      ≡ trees l.initial.out ++ fields g.X.Subtree.prints (shown g.Q.Qualifier.shown g.T.ToTokens.print) l.pat.fields;
  kept : Extends (trees l.initial.out) (trees l.out);
}

-- three for each level: a pattern, a form of it, and the list within that form

abbrev pub decreases-print_pat : goal.decreases-print_pat
decreases-print_pat g l = let h = height l.pat.now in h + (h + h)

abbrev pub decreases-print_guarded : goal.decreases-print_guarded
decreases-print_guarded g l = let h = height l.pat.now.pat in h + (h + h) + 2

abbrev pub decreases-print_paren : goal.decreases-print_paren
decreases-print_paren g l = let h = height l.pat.now.pat in h + (h + h) + 2

abbrev pub decreases-print_reference : goal.decreases-print_reference
decreases-print_reference g l = let h = height l.pat.now.pat in h + (h + h) + 2

abbrev pub decreases-print_typed : goal.decreases-print_typed
decreases-print_typed g l = let h = height l.pat.now.pat in h + (h + h) + 2

abbrev pub decreases-print_binding : goal.decreases-print_binding
decreases-print_binding g l = let h = sub_by height l.pat.now.subpat in h + (h + h) + 2

abbrev pub decreases-print_alternatives : goal.decreases-print_alternatives
decreases-print_alternatives g l = let h = most height l.pat.now.cases.0 in h + (h + h) + 2

abbrev pub decreases-print_cases : goal.decreases-print_cases
decreases-print_cases g l = let h = most height l.pat.now.cases.0 in h + (h + h) + 1

abbrev pub decreases-print_slice : goal.decreases-print_slice
decreases-print_slice g l = let h = most height l.pat.now.elems.0 in h + (h + h) + 2

abbrev pub decreases-print_elements : goal.decreases-print_elements
decreases-print_elements g l = let h = most height l.elems.now.0 in h + (h + h) + 1

abbrev pub decreases-print_struct : goal.decreases-print_struct
decreases-print_struct g l = let h = most (field_by height) l.pat.now.fields.0 in h + (h + h) + 2

abbrev pub decreases-print_fields : goal.decreases-print_fields
decreases-print_fields g l = let h = most (field_by height) l.pat.now.fields.0 in h + (h + h) + 1

abbrev pub decreases-print_tuple : goal.decreases-print_tuple
decreases-print_tuple g l = let h = most height l.pat.now.elems.0 in h + (h + h) + 2

abbrev pub decreases-print_tuple_struct : goal.decreases-print_tuple_struct
decreases-print_tuple_struct g l = let h = most height l.pat.now.elems.0 in h + (h + h) + 2
