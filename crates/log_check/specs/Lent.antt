-- Clauses behind references. No public contract cites this module.
use Rattle.std.specs.Prelude.{List, map}
use Rattle.std.specs.Borrow.{Bor}
use Rattle.ut_logic.specs.declared.literals.Lit.{Lit}

-- the clauses that references lead to
abbrev pub lent : List (Bor (List Lit)) → List (List Lit)
lent refs = map (λ (r : Bor (List Lit)). r.now) refs
