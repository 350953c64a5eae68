-- What a where clause that is lent leaves behind.
use Rattle.std.specs.Prelude.{Some}
use Rattle.std.specs.Borrow.{Lends, MutBor, Fml, RattleType}
use Rattle.syn_generics.specs.declared.generics.GenericsOf.{GenericsOf}
use Rattle.syn_generics.specs.declared.generics.WhereClauseOf.{WhereClauseOf}
use Rattle.syn_generics.specs.contracts.generics.GenericsOf as g
use Rattle.syn_generics.specs.contracts.generics.WhereClauseOf as w

-- the generics end with what is left of that clause, and all else as before
abbrev pub lends_clause : (A E : RattleType) → MutBor (GenericsOf A.Denot E.Denot) → MutBor (WhereClauseOf A.Denot E.Denot) → Fml
lends_clause A E s r = Lends (g.the_row A E) (w.the_row A E) s r (λ c. record s.now { where_clause = Some c })
