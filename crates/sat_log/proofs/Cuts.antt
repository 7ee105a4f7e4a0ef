-- Where a clause forces its last literal.
use Rattle.std.proofs.Common.{◌≡◌, ◌≢◌, true, List, ◌∷◌, ◌++◌, sym, ap, ◌∙◌}
use Rattle.std.specs.Prelude.{Contains}
use Rattle.std.proofs.lemmas.List.Elements.{Contains-append_right}
use Rattle.ut_logic.specs.declared.literals.Lit.{Lit}
use Rattle.ut_logic.specs.Clauses.{negated}
use Rattle.sat_log.specs.declared.marks.Mark.{Mark}
use Rattle.sat_log.specs.Moves.{set_literals, IsSet, IsFalse, IsUnset, IsForcing}
use Rattle.sat_log.specs.Inner.{AreApart}
use Rattle.sat_log.proofs.RunLemmas.{set_append, set_left}
use Rattle.sat_log.proofs.Settled.{both_set, mark_of}
use Rattle.sat_log.proofs.Back.{apart_split}

-- the part of a trail from some decided literal on that one literal of the clause is false in
pub record IsLastPart (kept : List Mark) (cut : Mark) (gone : List Mark) (c : List Lit) (l : Lit) : Type 0 where
  pub decided : cut.decided ≡ true
  pub inside : Contains c l
  pub here : IsFalse (cut ∷ gone) l
  pub others : (k : Lit) → Contains c k → k ≢ l → IsFalse kept k

-- a literal isn't set in a front and in the rest
twice : (xs ys : List Mark) (l : Lit) → AreApart (xs ++ ys) → IsSet xs l → IsSet ys l → ⊥
twice xs ys l a s t =
    let m = mark_of xs l s in
    let k = mark_of ys l t in
    apart_split xs ys m.0 k.0 a m.1 k.1 (ap (λ (x : Lit). x.var) (m.2 ∙ sym k.2))

-- what is set behind a front is unset in it
pub unset_before : (kept rest : List Mark) (l : Lit) → AreApart (kept ++ rest) → IsFalse rest l → IsUnset kept l
unset_before kept rest l a f =
    let whole : IsFalse (kept ++ rest) l = rw (set_append kept rest) (Contains-append_right (set_literals kept) (set_literals rest) (negated l) f) in (
      (λ s. both_set (kept ++ rest) l a (set_left kept rest l s) whole),
      (λ s. twice kept rest (negated l) a s f),
    )

-- the clause forces its last literal where the trail is cut before that decided literal
pub forces_before : (kept : List Mark) (cut : Mark) (gone : List Mark) (c : List Lit) (l : Lit) → AreApart (kept ++ cut ∷ gone) → IsLastPart kept cut gone c l → IsForcing kept c
forces_before kept cut gone c l a p = (l, record { inside = p.inside; unset = unset_before kept (cut ∷ gone) l a p.here; others = p.others })
