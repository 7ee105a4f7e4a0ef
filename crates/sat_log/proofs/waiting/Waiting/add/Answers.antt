use Rattle.std.proofs.Common.{◌≡◌, ◌∷◌, [], true, false, take, inl, inr, sym, ◌∙◌, arith}
use Rattle.std.specs.Prelude.{Contains}
use Rattle.std.proofs.lemmas.Bool.{false≢true}
use Rattle.std.proofs.lemmas.List.Elements.{Contains-append_left, Contains-push, Contains-push_cases}
use Rattle.sat_log.proofs.OnceLemmas.{room_left, added}
use Rattle.sat_log.proofs.waiting.Waiting.add.Goals as goal

pub index_mut-requires-2 : goal.index_mut-requires-2
index_mut-requires-2 c =
    let s = c.self.inside in
    let h = rw (← c.self.view_is) at c.requires in
    let fresh : ¬ Contains (take s.count s.places.items) c.args.place = λ i. false≢true (sym c.if-is_listed.false ∙ c.index-is_listed.ensures ∙ (c.self.invariant.flags c.args.place c.index-is_listed.result.now h).1 i) in
    omega (arith, s.places.ok.0, room_left s.places.items s.listed.items s.count c.self.invariant c.args.place h fresh)

pub invariant_of-self : goal.invariant_of-self
invariant_of-self c =
    let s = c.self.inside in
    let h = rw (← c.self.view_is) at c.requires in
    let fresh : ¬ Contains (take s.count s.places.items) c.args.place = λ i. false≢true (sym c.if-is_listed.false ∙ c.index-is_listed.ensures ∙ (c.self.invariant.flags c.args.place c.index-is_listed.result.now h).1 i) in
    (added s.places.items s.listed.items s.count c.self.invariant c.args.place h fresh).0

pub returns-clause-added : goal.returns-clause-added
returns-clause-added c =
    let s = c.self.inside in
    let h = rw (← c.self.view_is) at c.requires in
    let fresh : ¬ Contains (take s.count s.places.items) c.args.place = λ i. false≢true (sym c.if-is_listed.false ∙ c.index-is_listed.ensures ∙ (c.self.invariant.flags c.args.place c.index-is_listed.result.now h).1 i) in
    let same = (added s.places.items s.listed.items s.count c.self.invariant c.args.place h fresh).1 in
    rw same (Contains-push _ c.args.place)

pub returns-clause-kept : goal.returns-clause-kept
returns-clause-kept c =
    let s = c.self.inside in
    let h = rw (← c.self.view_is) at c.requires in
    let fresh : ¬ Contains (take s.count s.places.items) c.args.place = λ i. false≢true (sym c.if-is_listed.false ∙ c.index-is_listed.ensures ∙ (c.self.invariant.flags c.args.place c.index-is_listed.result.now h).1 i) in
    let same = (added s.places.items s.listed.items s.count c.self.invariant c.args.place h fresh).1 in
    rw (← c.self.view_is, same) (λ j i. Contains-append_left (take s.count s.places.items) (c.args.place ∷ []) j i)

pub returns-clause-only : goal.returns-clause-only
returns-clause-only c =
    let s = c.self.inside in
    let h = rw (← c.self.view_is) at c.requires in
    let fresh : ¬ Contains (take s.count s.places.items) c.args.place = λ i. false≢true (sym c.if-is_listed.false ∙ c.index-is_listed.ensures ∙ (c.self.invariant.flags c.args.place c.index-is_listed.result.now h).1 i) in
    let same = (added s.places.items s.listed.items s.count c.self.invariant c.args.place h fresh).1 in
    rw (← c.self.view_is, same) (λ j i n. elim (Contains-push_cases (take s.count s.places.items) c.args.place j i) [ inl q ↦ q | inr e ↦ absurd (n (sym e)) ])
