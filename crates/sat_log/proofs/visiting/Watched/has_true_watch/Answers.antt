use Rattle.std.proofs.Common.{◌≡◌, ◌+◌, ◌*◌, ◌/◌, ◌<◌, ◌≤◌, length, get_or, inl, inr, refl, sym, ap, ◌∙◌, arith}
use Rattle.std.proofs.lemmas.Bool.{false≢true}
use Rattle.std.proofs.lemmas.List.{get_or_default}
use Rattle.sat_log.specs.Codes.{truth_of}
use Rattle.sat_log.proofs.Keeping.{watch_ranges}
use Rattle.sat_log.proofs.Looking.{literal_true, truth_from_set}
use Rattle.sat_log.proofs.visiting.Watched.has_true_watch.Goals as goal

pub index-requires : goal.index-requires
index-requires c =
    let given = c.requires.watched in
    omega (arith, c.requires.place, given.2.sized.slots, given.2.linked.watch_room, c.args.self.now.links.watched.ok.0)

pub truth_of-requires-clause-low : goal.truth_of-requires-clause-low
truth_of-requires-clause-low c =
    let given = c.requires.watched in
    let is1 : c.index.result.now ≡ get_or c.args.self.now.links.watched.items (c.args.place * 2) 0 = c.index.ensures ∙ get_or_default c.args.self.now.links.watched.items (c.args.place * 2) _ 0 (omega (arith, c.requires.place, given.2.sized.slots, given.2.linked.watch_room)) in
    let r = watch_ranges _ c.args.self.now given.0 c.args.place given.2 c.requires.calm c.requires.place in
    omega (arith, r.0.0, is1)

pub truth_of-requires-clause-high : goal.truth_of-requires-clause-high
truth_of-requires-clause-high c =
    let given = c.requires.watched in
    let is1 : c.index.result.now ≡ get_or c.args.self.now.links.watched.items (c.args.place * 2) 0 = c.index.ensures ∙ get_or_default c.args.self.now.links.watched.items (c.args.place * 2) _ 0 (omega (arith, c.requires.place, given.2.sized.slots, given.2.linked.watch_room)) in
    rw is1 (watch_ranges _ c.args.self.now given.0 c.args.place given.2 c.requires.calm c.requires.place).0.1

pub returns-then-is_true : goal.returns-then-is_true
returns-then-is_true c = λ ms r a.
    let given = c.requires.watched in
    let is1 : c.index.result.now ≡ get_or c.args.self.now.links.watched.items (c.args.place * 2) 0 = c.index.ensures ∙ get_or_default c.args.self.now.links.watched.items (c.args.place * 2) _ 0 (omega (arith, c.requires.place, given.2.sized.slots, given.2.linked.watch_room)) in
    let range = watch_ranges _ c.args.self.now ms c.args.place a c.requires.calm c.requires.place in
    let v = sym (ap (truth_of c.args.values.now) is1) ∙ sym c.truth_of.ensures ∙ c.is_true.ensures.0 c.if-is_true.true in
    ((λ e. inl (literal_true ms c.args.values.now r.told r.apart _ range.0 v)), (λ h. refl))

pub index-requires-2 : goal.index-requires-2
index-requires-2 c =
    let given = c.requires.watched in
    omega (arith, c.requires.place, given.2.sized.slots, given.2.linked.watch_room, c.args.self.now.links.watched.ok.0)

pub truth_of-requires-2-clause-low : goal.truth_of-requires-2-clause-low
truth_of-requires-2-clause-low c =
    let given = c.requires.watched in
    let is2 : c.index-2.result.now ≡ get_or c.args.self.now.links.watched.items (c.args.place * 2 + 1) 0 = c.index-2.ensures ∙ get_or_default c.args.self.now.links.watched.items (c.args.place * 2 + 1) _ 0 (omega (arith, c.requires.place, given.2.sized.slots, given.2.linked.watch_room)) in
    let r = watch_ranges _ c.args.self.now given.0 c.args.place given.2 c.requires.calm c.requires.place in
    omega (arith, r.1.0, is2)

pub truth_of-requires-2-clause-high : goal.truth_of-requires-2-clause-high
truth_of-requires-2-clause-high c =
    let given = c.requires.watched in
    let is2 : c.index-2.result.now ≡ get_or c.args.self.now.links.watched.items (c.args.place * 2 + 1) 0 = c.index-2.ensures ∙ get_or_default c.args.self.now.links.watched.items (c.args.place * 2 + 1) _ 0 (omega (arith, c.requires.place, given.2.sized.slots, given.2.linked.watch_room)) in
    rw is2 (watch_ranges _ c.args.self.now given.0 c.args.place given.2 c.requires.calm c.requires.place).1.1

pub returns : goal.returns
returns c = λ ms r a.
    let given = c.requires.watched in
    let is1 : c.index.result.now ≡ get_or c.args.self.now.links.watched.items (c.args.place * 2) 0 = c.index.ensures ∙ get_or_default c.args.self.now.links.watched.items (c.args.place * 2) _ 0 (omega (arith, c.requires.place, given.2.sized.slots, given.2.linked.watch_room)) in
    let is2 : c.index-2.result.now ≡ get_or c.args.self.now.links.watched.items (c.args.place * 2 + 1) 0 = c.index-2.ensures ∙ get_or_default c.args.self.now.links.watched.items (c.args.place * 2 + 1) _ 0 (omega (arith, c.requires.place, given.2.sized.slots, given.2.linked.watch_room)) in
    let same1 = ap (truth_of c.args.values.now) is1 in
    let same2 = ap (truth_of c.args.values.now) is2 in
    let range = watch_ranges _ c.args.self.now ms c.args.place a c.requires.calm c.requires.place in (
      (λ e. inr (literal_true ms c.args.values.now r.told r.apart _ range.1 (sym same2 ∙ sym c.truth_of-2.ensures ∙ c.is_true-2.ensures.0 e))),
      (λ h. elim h [
        | inl s ↦ absurd (false≢true (sym c.if-is_true.false ∙ c.is_true.ensures.1 (c.truth_of.ensures ∙ same1 ∙ truth_from_set ms c.args.values.now r.told r.apart _ range.0 s)))
        | inr s ↦ c.is_true-2.ensures.1 (c.truth_of-2.ensures ∙ same2 ∙ truth_from_set ms c.args.values.now r.told r.apart _ range.1 s)
      ]),
    )
