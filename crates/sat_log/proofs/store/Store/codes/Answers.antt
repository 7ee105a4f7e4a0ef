use Rattle.std.proofs.Common.{◌≡◌, ◌-◌, ◌<◌, ◌≤◌, [], length, get_or, ap, sym, ◌∙◌, subst, arith}
use Rattle.std.proofs.lemmas.List.{get_or_default}
use Rattle.ut_logic.specs.Clauses.{IsClause}
use Rattle.sat_log.proofs.Storing.{length_clauses, clause_is, range_fits}
use Rattle.sat_log.proofs.store.Store.codes.Goals as goal

pub start_of-start-requires : goal.start_of-start-requires
start_of-start-requires c =
    let s = c.self.inside in
    let h = rw (← c.self.view_is) at c.requires in
    rw c.as_slice.ensures.value (omega (arith, h, length_clauses 0 s.ends.items s.codes.items))

pub index-requires : goal.index-requires
index-requires c =
    let s = c.self.inside in
    let h = rw (← c.self.view_is) at c.requires in
    omega (arith, h, length_clauses 0 s.ends.items s.codes.items, s.ends.ok.0)

pub offset_bounds-as_slice-start : goal.offset_bounds-as_slice-start
offset_bounds-as_slice-start c =
    let s = c.self.inside in
    let h = rw (← c.self.view_is) at c.requires in
    let low : c.args.place < length s.ends.items = omega (arith, h, length_clauses 0 s.ends.items s.codes.items) in
    let end : c.index.result.now ≡ get_or s.ends.items c.args.place 0 = c.index.ensures ∙ get_or_default s.ends.items c.args.place _ 0 low in
    let fits = range_fits 0 s.ends.items (length s.codes.items) c.args.place c.self.invariant.ends_rise low in
    let start = rw c.as_slice.ensures.value at c.start_of-start.ensures in
    omega (arith, end, start, fits.0, fits.1, ap length c.as_slice-2.ensures.value, s.codes.ok.0)

pub slice_bounds-part-count : goal.slice_bounds-part-count
slice_bounds-part-count c =
    let s = c.self.inside in
    let h = rw (← c.self.view_is) at c.requires in
    let low : c.args.place < length s.ends.items = omega (arith, h, length_clauses 0 s.ends.items s.codes.items) in
    let end : c.index.result.now ≡ get_or s.ends.items c.args.place 0 = c.index.ensures ∙ get_or_default s.ends.items c.args.place _ 0 low in
    let fits = range_fits 0 s.ends.items (length s.codes.items) c.args.place c.self.invariant.ends_rise low in
    let start = rw c.as_slice.ensures.value at c.start_of-start.ensures in
    omega (arith, end, start, fits.0, fits.1, ap length c.as_slice-2.ensures.value, s.codes.ok.0)

pub slice_bounds-part-start : goal.slice_bounds-part-start
slice_bounds-part-start c =
    let s = c.self.inside in
    let h = rw (← c.self.view_is) at c.requires in
    let low : c.args.place < length s.ends.items = omega (arith, h, length_clauses 0 s.ends.items s.codes.items) in
    let end : c.index.result.now ≡ get_or s.ends.items c.args.place 0 = c.index.ensures ∙ get_or_default s.ends.items c.args.place _ 0 low in
    let fits = range_fits 0 s.ends.items (length s.codes.items) c.args.place c.self.invariant.ends_rise low in
    let start = rw c.as_slice.ensures.value at c.start_of-start.ensures in
    omega (arith, end, start, fits.0, fits.1, ap length c.as_slice-2.ensures.value, s.codes.ok.0)

pub slice_bounds-part-end : goal.slice_bounds-part-end
slice_bounds-part-end c =
    let s = c.self.inside in
    let h = rw (← c.self.view_is) at c.requires in
    let low : c.args.place < length s.ends.items = omega (arith, h, length_clauses 0 s.ends.items s.codes.items) in
    let end : c.index.result.now ≡ get_or s.ends.items c.args.place 0 = c.index.ensures ∙ get_or_default s.ends.items c.args.place _ 0 low in
    let fits = range_fits 0 s.ends.items (length s.codes.items) c.args.place c.self.invariant.ends_rise low in
    let start = rw c.as_slice.ensures.value at c.start_of-start.ensures in
    omega (arith, end, start, fits.0, fits.1, ap length c.as_slice-2.ensures.value, s.codes.ok.0)

pub returns-clause-lits : goal.returns-clause-lits
returns-clause-lits c =
    let s = c.self.inside in
    let h = rw (← c.self.view_is) at c.requires in
    let low : c.args.place < length s.ends.items = omega (arith, h, length_clauses 0 s.ends.items s.codes.items) in
    let end : c.index.result.now ≡ get_or s.ends.items c.args.place 0 = c.index.ensures ∙ get_or_default s.ends.items c.args.place _ 0 low in
    rw (← c.self.view_is, c.start_of-start.ensures, c.as_slice.ensures.value, c.as_slice-2.ensures.value, end) (sym (clause_is 0 s.ends.items s.codes.items c.args.place _ low))

pub returns-clause-clause : goal.returns-clause-clause
returns-clause-clause c =
    let s = c.self.inside in
    let h = rw (← c.self.view_is) at c.requires in
    let low : c.args.place < length s.ends.items = omega (arith, h, length_clauses 0 s.ends.items s.codes.items) in
    let end : c.index.result.now ≡ get_or s.ends.items c.args.place 0 = c.index.ensures ∙ get_or_default s.ends.items c.args.place _ 0 low in
    rw (c.start_of-start.ensures, c.as_slice.ensures.value, c.as_slice-2.ensures.value, end) (subst IsClause (clause_is 0 s.ends.items s.codes.items c.args.place [] low) (c.self.invariant.clauses c.args.place [] h))
