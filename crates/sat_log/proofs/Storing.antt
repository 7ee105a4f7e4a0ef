-- Clauses in one list of numbers.
use Rattle.std.proofs.Common.{◌≡◌, ℕ, zero, suc, ◌+◌, ◌-◌, ◌^◌, ◌<◌, ◌≤◌, List, [], ◌∷◌, ◌++◌, length, get_or, take, drop, map, refl, sym, ap, ap₂, ◌∙◌, subst, arith}
use Rattle.std.specs.Prelude.{All, OnErr, Result, Ok, Err}
use Rattle.std.proofs.lemmas.List.{length-append, length-map, length-drop, length_push, take_all, take-append-le, drop-append-le, drop_at, take-append-drop, length-take-le, append-nil}
use Rattle.std.proofs.lemmas.List.Elements.{All-take, All-push}
use Rattle.ut_logic.specs.declared.literals.Lit.{Lit}
use Rattle.ut_logic.specs.Clauses.{IsClause}
use Rattle.sat_log.specs.Codes.{code_of, literal_of}
use Rattle.sat_log.specs.Stores.{clause_between, clauses_from, AreEnds, start_at, last_end, AreStored, GrowsUpTo}
use Rattle.sat_log.proofs.Numbering.{literal_of-code_of}

-- what holds anyway holds after an error
pub on_err : {T E P : Type 0} (r : Result T E) → P → OnErr r P
on_err (Ok x) p = tt
on_err (Err y) p = p

pub length_clauses : (from : ℕ) (ends codes : List ℕ) → length (clauses_from from ends codes) ≡ length ends
length_clauses from [] codes = refl
length_clauses from (e ∷ es) codes = ap suc (length_clauses e es codes)

-- the clause with a place
pub clause_is : (from : ℕ) (ends codes : List ℕ) (k : ℕ) (d : List Lit) → k < length ends → get_or (clauses_from from ends codes) k d ≡ clause_between (start_at from ends k) (get_or ends k 0) codes
clause_is from [] codes k d h = absurd (omega (arith, h))
clause_is from (e ∷ es) codes zero d h = refl
clause_is from (e ∷ es) codes (suc zero) d h = clause_is e es codes zero d (omega (arith, h))
clause_is from (e ∷ es) codes (suc (suc k)) d h = clause_is e es codes (suc k) d (omega (arith, h))

from_low : (from : ℕ) (ends : List ℕ) (most : ℕ) → AreEnds from ends most → from ≤ most
from_low from [] most h = h
from_low from (e ∷ es) most h = let low : e ≤ most = from_low e es most h.1 in omega (arith, h.0)

pub range_fits : (from : ℕ) (ends : List ℕ) (most k : ℕ) → AreEnds from ends most → k < length ends → (start_at from ends k ≤ get_or ends k 0) × (get_or ends k 0 ≤ most)
range_fits from [] most k a h = absurd (omega (arith, h))
range_fits from (e ∷ es) most zero a h = (a.0, from_low e es most a.1)
range_fits from (e ∷ es) most (suc zero) a h = range_fits e es most zero a.1 (omega (arith, h))
range_fits from (e ∷ es) most (suc (suc k)) a h = range_fits e es most (suc k) a.1 (omega (arith, h))

-- more numbers at the end change no clause
between_left : (from end : ℕ) (front back : List ℕ) → from ≤ end → end ≤ length front → clause_between from end (front ++ back) ≡ clause_between from end front
between_left from end front back h k =
    ap (λ t. map literal_of (take (end - from) t)) (drop-append-le from front back (omega arith))
    ∙ ap (map literal_of) (take-append-le (end - from) (drop from front) back (omega (arith, length-drop from front)))

pub view_left : (from : ℕ) (ends front back : List ℕ) → AreEnds from ends (length front) → clauses_from from ends (front ++ back) ≡ clauses_from from ends front
view_left from [] front back a = refl
view_left from (e ∷ es) front back a = ap₂ (λ x xs. x ∷ xs) (between_left from e front back a.0 (from_low e es (length front) a.1)) (view_left e es front back a.1)

pub ends_wider : (from : ℕ) (ends : List ℕ) (most more : ℕ) → most ≤ more → AreEnds from ends most → AreEnds from ends more
ends_wider from [] most more h a = omega (arith, a)
ends_wider from (e ∷ es) most more h a = (a.0, ends_wider e es most more h a.1)

ends_last : (from : ℕ) (ends : List ℕ) (most : ℕ) → AreEnds from ends most → AreEnds from ends (last_end from ends)
ends_last from [] most a = omega arith
ends_last from (e ∷ es) most a = (a.0, ends_last e es most a.1)

pub last_low : (from : ℕ) (ends : List ℕ) (most : ℕ) → AreEnds from ends most → last_end from ends ≤ most
last_low from [] most a = a
last_low from (e ∷ es) most a = last_low e es most a.1

-- the numbers behind the last end go
pub view_cut : (ends codes : List ℕ) → AreEnds 0 ends (length codes) → (clauses_from 0 ends (take (last_end 0 ends) codes) ≡ clauses_from 0 ends codes) × AreEnds 0 ends (length (take (last_end 0 ends) codes))
view_cut ends codes a =
    let end : ℕ = last_end 0 ends in
    let len : length (take end codes) ≡ end = length-take-le end codes (last_low 0 ends (length codes) a) in
    let fits : AreEnds 0 ends (length (take end codes)) = subst (AreEnds 0 ends) (sym len) (ends_last 0 ends (length codes) a) in
    (sym (view_left 0 ends (take end codes) (drop end codes) fits) ∙ ap (clauses_from 0 ends) (take-append-drop end codes), fits)

lits_back : (lits : List Lit) → map literal_of (map code_of lits) ≡ lits
lits_back [] = refl
lits_back (l ∷ ls) = ap₂ (λ x xs. x ∷ xs) (literal_of-code_of l) (lits_back ls)

-- one clause more
view_push : (from : ℕ) (ends front more : List ℕ) → AreEnds from ends (length front) → last_end from ends ≡ length front → clauses_from from (ends ++ length (front ++ more) ∷ []) (front ++ more) ≡ clauses_from from ends front ++ map literal_of more ∷ []
view_push from [] front more a e =
    let rest : drop from (front ++ more) ≡ more = drop_at front more from (sym e) in
    let count : length more ≤ length (front ++ more) - from = omega (arith, length-append front more) in
    ap (λ t. t ∷ []) (ap (λ t. map literal_of (take (length (front ++ more) - from) t)) rest ∙ ap (map literal_of) (take_all (length (front ++ more) - from) more count))
view_push from (x ∷ es) front more a e =
    ap₂ (λ c cs. c ∷ cs) (between_left from x front more a.0 (from_low x es (length front) a.1)) (view_push x es front more a.1 e)

ends_push : (from : ℕ) (ends : List ℕ) (most more : ℕ) → most ≤ more → AreEnds from ends most → AreEnds from (ends ++ more ∷ []) more
ends_push from [] most more h a = (omega (arith, a), omega arith)
ends_push from (e ∷ es) most more h a = (a.0, ends_push e es most more h a.1)

module _ (ends codes : List ℕ) (s : AreStored ends codes) where
  abbrev pub front : List ℕ
  front = take (last_end 0 ends) codes

  pub length_front : length front ≡ last_end 0 ends
  length_front = length-take-le (last_end 0 ends) codes (last_low 0 ends (length codes) s.ends_rise)

  -- without what stands behind the last end
  pub kept_front : AreStored ends front × (clauses_from 0 ends front ≡ clauses_from 0 ends codes)
  kept_front =
      let cut = view_cut ends codes s.ends_rise in (
        record {
          ends_rise = cut.1;
          few = omega (arith, s.few, length_front, last_low 0 ends (length codes) s.ends_rise);
          clauses = subst (All IsClause) (sym cut.0) s.clauses;
        },
        cut.0,
      )

  -- more numbers behind the last end leave the clauses
  pub kept_with : (more : List ℕ) → length (front ++ more) < 2 ^ 32 → AreStored ends (front ++ more) × (clauses_from 0 ends (front ++ more) ≡ clauses_from 0 ends codes)
  kept_with more few =
      let cut = view_cut ends codes s.ends_rise in
      let same : clauses_from 0 ends (front ++ more) ≡ clauses_from 0 ends codes = view_left 0 ends front more cut.1 ∙ cut.0 in (
        record {
          ends_rise = ends_wider 0 ends (length front) (length (front ++ more)) (omega (arith, length-append front more)) cut.1;
          few = few;
          clauses = subst (All IsClause) (sym same) s.clauses;
        },
        same,
      )

  room_kept : (start count : ℕ) (more : List ℕ) → start ≡ last_end 0 ends → count ≤ 4294967295 - start → length more ≤ count → length (front ++ more) < 2 ^ 32
  room_kept start count more at h few = omega (arith, length-append front more, length_front, last_low 0 ends (length codes) s.ends_rise, s.few)

  -- the same where the numbers were cut at the last end, and some were put behind it
  pub kept_grown : (start count : ℕ) (cut new : List ℕ) → cut ≡ take start codes → start ≡ last_end 0 ends → count ≤ 4294967295 - start → GrowsUpTo cut new count → AreStored ends new × (clauses_from 0 ends new ≡ clauses_from 0 ends codes)
  kept_grown start count cut new is at h (more, e, few) =
      let whole : new ≡ front ++ more = e ∙ ap (λ t. t ++ more) (is ∙ ap (λ t. take t codes) at) in
      rw whole (kept_with more (room_kept start count more at h few))

  pub pushed : (lits : List Lit) (all : List ℕ) → all ≡ front ++ map code_of lits → IsClause lits → length all < 2 ^ 32 → AreStored (ends ++ length all ∷ []) all × (clauses_from 0 (ends ++ length all ∷ []) all ≡ clauses_from 0 ends codes ++ lits ∷ [])
  pushed lits all e clause few =
      let cut = view_cut ends codes s.ends_rise in
      let more : List ℕ = map code_of lits in
      let view : clauses_from 0 (ends ++ length (front ++ more) ∷ []) (front ++ more) ≡ clauses_from 0 ends codes ++ lits ∷ [] = view_push 0 ends front more cut.1 (sym length_front) ∙ ap₂ (λ cs c. cs ++ c ∷ []) cut.0 (lits_back lits) in
      let whole : clauses_from 0 (ends ++ length all ∷ []) all ≡ clauses_from 0 ends codes ++ lits ∷ [] = ap (λ t. clauses_from 0 (ends ++ length t ∷ []) t) e ∙ view in (
        record {
          ends_rise = subst (λ t. AreEnds 0 (ends ++ length t ∷ []) (length t)) (sym e) (ends_push 0 ends (length front) (length (front ++ more)) (omega (arith, length-append front more)) cut.1);
          few = few;
          clauses = subst (All IsClause) (sym whole) (All-push IsClause (clauses_from 0 ends codes) lits s.clauses clause);
        },
        whole,
      )

  -- a clause's numbers behind the last end make one clause more
  pub pushed_grown : (start : ℕ) (lits : List Lit) (cut all : List ℕ) → cut ≡ take start codes → start ≡ last_end 0 ends → length lits ≤ 4294967295 - start → all ≡ cut ++ map code_of lits → IsClause lits → AreStored (ends ++ length all ∷ []) all × (clauses_from 0 (ends ++ length all ∷ []) all ≡ clauses_from 0 ends codes ++ lits ∷ [])
  pushed_grown start lits cut all is at h e clause =
      let whole : all ≡ front ++ map code_of lits = e ∙ ap (λ t. t ++ map code_of lits) (is ∙ ap (λ t. take t codes) at) in
      let few : length (front ++ map code_of lits) < 2 ^ 32 = room_kept start (length lits) (map code_of lits) at h (omega (arith, length-map lits code_of)) in
      pushed lits all whole clause (omega (arith, few, ap length whole))

-- the last clause goes
pub view_take : (from n : ℕ) (ends codes : List ℕ) → clauses_from from (take n ends) codes ≡ take n (clauses_from from ends codes)
view_take from zero ends codes = refl
view_take from (suc n) [] codes = refl
view_take from (suc n) (e ∷ es) codes = ap (λ t. clause_between from e codes ∷ t) (view_take e n es codes)

ends_take : (from n : ℕ) (ends : List ℕ) (most : ℕ) → AreEnds from ends most → AreEnds from (take n ends) most
ends_take from zero ends most a = from_low from ends most a
ends_take from (suc n) [] most a = a
ends_take from (suc n) (e ∷ es) most a = (a.0, ends_take e n es most a.1)

pub stored_take : (n : ℕ) (ends codes : List ℕ) → AreStored ends codes → AreStored (take n ends) codes
stored_take n ends codes s = record {
  ends_rise = ends_take 0 n ends (length codes) s.ends_rise;
  few = s.few;
  clauses = subst (All IsClause) (sym (view_take 0 n ends codes)) (All-take IsClause n (clauses_from 0 ends codes) s.clauses);
}

-- the last end is where the clause behind the last one would begin
pub end_is : (from : ℕ) (ends : List ℕ) → start_at from ends (length ends) ≡ last_end from ends
end_is from [] = refl
end_is from (e ∷ []) = refl
end_is from (e ∷ f ∷ es) = end_is e (f ∷ es)
