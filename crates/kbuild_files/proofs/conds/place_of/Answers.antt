use Rattle.std.proofs.Common.{◌≡◌, ◌<◌, ◌≤◌, ℕ, length, Option, None, Some, cond, nat_lt, subst, sym, List, Vec}
use Rattle.std.specs.Prelude.{MatchOption}
use Rattle.std.specs.declared.alloc.Global.{Global}
use Rattle.ut_text.specs.Bytes.{Bytes}
use Rattle.kbuild_files.specs.Tables.{IsPlace, place_in}
use Rattle.kbuild_files.proofs.SourceLaws.{at_place, no_place}
use Rattle.kbuild_files.proofs.conds.place_of.Goals as goal

found : (names : List (Vec ℕ Global)) (name : Bytes) (r : Option ℕ) → r ≡ cond (nat_lt (place_in names name) (length names)) (Some (place_in names name)) None
    → MatchOption r (length names ≤ place_in names name) (λ place. IsPlace names name place)
found names name None e = no_place (place_in names name) (length names) (sym e)
found names name (Some i) e = let p = at_place (place_in names name) (length names) i (sym e) in record { first = p.0; within = subst (λ z. z < length names) (sym p.0) p.1 }

pub returns : goal.returns
returns c = found c.args.names.now.keys c.args.name.now c.get_index_of.result c.get_index_of.ensures.index
