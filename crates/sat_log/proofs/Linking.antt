-- Lists of slots that are linked.
use Rattle.std.proofs.Common.{◌≡◌, ◌≢◌, ℕ, suc, ◌+◌, ◌<◌, ◌≤◌, List, [], ◌∷◌, ◌++◌, length, get_or, set, inl, inr, refl, sym, ap, ◌∙◌, subst, arith}
use Rattle.std.specs.Prelude.{All, Contains}
use Rattle.std.proofs.lemmas.List.{length-append, get_or_append_left, length-set, get_or-set_same, get_or-set_other}
use Rattle.std.proofs.lemmas.Bool.{cases_eq}
use Rattle.log_check.proofs.Resolvents.{contains_head, contains_tail, contains_cases, contains_nothing}
use Rattle.sat_log.specs.Stores.{GrowsBy}
use Rattle.sat_log.specs.Waiting.{HasOnce}
use Rattle.sat_log.specs.Links.{none, IsChain, IsListOf, AreLinked}
use Rattle.sat_log.proofs.OnceLemmas.{few_once}

-- a write at another slot leaves a list
chain_other : (next : List ℕ) (s x first : ℕ) (list : List ℕ) → ¬ Contains list s → IsChain next first list → IsChain (set next s x) first list
chain_other next s x first [] n h = h
chain_other next s x first (t ∷ ts) n h =
    let other : t ≢ s = λ e. n (subst (Contains (t ∷ ts)) e (contains_head t ts)) in
    (h.0, subst (λ q. IsChain (set next s x) q ts) (sym (get_or-set_other next s t x 0 other)) (chain_other next s x (get_or next t 0) ts (λ i. n (contains_tail t ts s i)) h.1))

-- room behind the slots leaves a list
chain_longer : (next more : List ℕ) (slots first : ℕ) (list : List ℕ) → slots ≤ length next → ((s : ℕ) → Contains list s → s < slots) → IsChain next first list → IsChain (next ++ more) first list
chain_longer next more slots first [] h b c = c
chain_longer next more slots first (t ∷ ts) h b c =
    let low : t < slots = b t (contains_head t ts) in
    (c.0, subst (λ q. IsChain (next ++ more) q ts) (sym (get_or_append_left next more 0 t (omega arith))) (chain_longer next more slots (get_or next t 0) ts h (λ s i. b s (contains_tail t ts s i)) c.1))

module _ (watched heads next : List ℕ) (slots : ℕ) where
  -- a literal's list is taken off
  pub list_taken : (code : ℕ) → AreLinked watched heads next slots none [] → code < length heads → (off : List ℕ) × AreLinked watched (set heads code none) next slots (get_or heads code 0) off × ((s : ℕ) → Contains off s → get_or watched s 0 ≡ code) × ((s : ℕ) → s < slots → get_or watched s 0 ≡ code → Contains off s)
  list_taken code a h = by (a.lists code h).0 (a.lists code h).1
    where
      by : (off : List ℕ) → IsListOf watched next slots [] code (get_or heads code 0) off → (off : List ℕ) × AreLinked watched (set heads code none) next slots (get_or heads code 0) off × ((s : ℕ) → Contains off s → get_or watched s 0 ≡ code) × ((s : ℕ) → s < slots → get_or watched s 0 ≡ code → Contains off s)
      by off l = (
        off,
        record {
          chain = l.chain;
          once = l.once;
          inside = λ s i. (l.sound s i).0;
          room = a.room;
          watch_room = a.watch_room;
          few = a.few;
          lists = λ c lt. elim (cases_eq c code) [
            | inl e ↦ (
              [],
              record {
                chain = ap (λ t. get_or (set heads code none) t 0) e ∙ get_or-set_same heads code none 0 h;
                once = tt;
                sound = λ s i. absurd (contains_nothing s i);
                complete = λ s low at out. absurd (out (l.complete s low (at ∙ e) (contains_nothing s)));
              },
            )
            | inr n ↦
                let o = a.lists c (omega (arith, lt, length-set heads code none)) in (
                  o.0,
                  record {
                    chain = subst (λ q. IsChain next q o.0) (sym (get_or-set_other heads code c none 0 n)) o.1.chain;
                    once = o.1.once;
                    sound = λ s i. ((o.1.sound s i).0, (o.1.sound s i).1, (λ j. n (sym (o.1.sound s i).1 ∙ (l.sound s j).1)));
                    complete = λ s low at out. o.1.complete s low at (contains_nothing s);
                  },
                )
          ];
        },
        (λ s i. (l.sound s i).1),
        (λ s low at. l.complete s low at (contains_nothing s)),
      )

  -- the first slot of a list that was taken off is put in front of a literal's list
  pub slot_put : (code s : ℕ) (rest : List ℕ) → AreLinked watched heads next slots s (s ∷ rest) → code < length heads → AreLinked (set watched s code) (set heads code s) (set next s (get_or heads code 0)) slots (get_or next s 0) rest
  slot_put code s rest a h =
      let first : ℕ = get_or heads code 0 in
      let s_low : s < slots = a.inside s (contains_head s rest) in
      let s_next : s < length next = omega (arith, a.room) in
      let s_watched : s < length watched = omega (arith, a.watch_room) in
      record {
        chain = chain_other next s first (get_or next s 0) rest a.once.0 a.chain.1;
        once = a.once.1;
        inside = λ t i. a.inside t (contains_tail s rest t i);
        room = omega (arith, a.room, length-set next s first);
        watch_room = omega (arith, a.watch_room, length-set watched s code);
        few = a.few;
        lists = λ c lt.
            let o = a.lists c (omega (arith, lt, length-set heads code s)) in
            let list : List ℕ = o.0 in
            let out : ¬ Contains list s = λ i. (o.1.sound s i).2 (contains_head s rest) in
            let apart : (t : ℕ) → Contains list t → t ≢ s = λ t i e. out (subst (Contains list) e i) in
            elim (cases_eq c code) [
              | inl e ↦ (
                s ∷ list,
                record {
                  chain = (
                    ap (λ t. get_or (set heads code s) t 0) e ∙ get_or-set_same heads code s 0 h,
                    subst (λ q. IsChain (set next s first) q list) (sym (get_or-set_same next s first 0 s_next)) (chain_other next s first first list out (subst (λ t. IsChain next (get_or heads t 0) list) e o.1.chain)),
                  );
                  once = (out, o.1.once);
                  sound = λ t i. elim (contains_cases s list t i) [
                    | inl f ↦ subst (λ u. (u < slots) × (get_or (set watched s code) u 0 ≡ c) × (¬ Contains rest u)) f (s_low, get_or-set_same watched s code 0 s_watched ∙ sym e, a.once.0)
                    | inr j ↦ ((o.1.sound t j).0, get_or-set_other watched s t code 0 (apart t j) ∙ (o.1.sound t j).1, (λ k. (o.1.sound t j).2 (contains_tail s rest t k)))
                  ];
                  complete = λ t low at absent. elim (cases_eq t s) [
                    | inl f ↦ subst (Contains (s ∷ list)) (sym f) (contains_head s list)
                    | inr n ↦ contains_tail s list t (o.1.complete t low (sym (get_or-set_other watched s t code 0 n) ∙ at) (λ k. elim (contains_cases s rest t k) [ inl g ↦ n (sym g) | inr j ↦ absent j ]))
                  ];
                },
              )
              | inr ne ↦ (
                list,
                record {
                  chain = subst (λ q. IsChain (set next s first) q list) (sym (get_or-set_other heads code c s 0 ne)) (chain_other next s first (get_or heads c 0) list out o.1.chain);
                  once = o.1.once;
                  sound = λ t j. ((o.1.sound t j).0, get_or-set_other watched s t code 0 (apart t j) ∙ (o.1.sound t j).1, (λ k. (o.1.sound t j).2 (contains_tail s rest t k)));
                  complete = λ t low at absent. elim (cases_eq t s) [
                    | inl f ↦ absurd (ne (sym at ∙ ap (λ u. get_or (set watched s code) u 0) f ∙ get_or-set_same watched s code 0 s_watched))
                    | inr n ↦ o.1.complete t low (sym (get_or-set_other watched s t code 0 n) ∙ at) (λ k. elim (contains_cases s rest t k) [ inl g ↦ n (sym g) | inr j ↦ absent j ])
                  ];
                },
              )
            ];
      }

  -- a slot more is a list that was taken off
  pub slot_new : (code : ℕ) → AreLinked watched heads next slots none [] → slots < length next → slots < length watched → slots + 1 < none → AreLinked (set watched slots code) heads (set next slots none) (slots + 1) slots (slots ∷ [])
  slot_new code a room watch_room few = record {
    chain = (refl, get_or-set_same next slots none 0 room);
    once = (contains_nothing slots, tt);
    inside = λ s i. elim (contains_cases slots [] s i) [ inl e ↦ omega arith | inr j ↦ absurd (contains_nothing s j) ];
    room = omega (arith, length-set next slots none);
    watch_room = omega (arith, length-set watched slots code);
    few = few;
    lists = λ c lt.
        let o = a.lists c lt in
        let below : (t : ℕ) → Contains o.0 t → t ≢ slots = λ t i e. absurd (omega (arith, (o.1.sound t i).0)) in (
          o.0,
          record {
            chain = chain_other next slots none (get_or heads c 0) o.0 (λ i. below slots i refl) o.1.chain;
            once = o.1.once;
            sound = λ t i. (omega (arith, (o.1.sound t i).0), get_or-set_other watched slots t code 0 (below t i) ∙ (o.1.sound t i).1, (λ j. elim (contains_cases slots [] t j) [ inl e ↦ below t i (sym e) | inr k ↦ contains_nothing t k ]));
            complete = λ t low at out.
                let n : t ≢ slots = λ e. out (subst (Contains (slots ∷ [])) (sym e) (contains_head slots [])) in
                o.1.complete t (omega arith) (sym (get_or-set_other watched slots t code 0 n) ∙ at) (contains_nothing t);
          },
        );
  }

  -- more room behind the slots changes no list
  pub more_room : (watched' next' : List ℕ) (first : ℕ) (off : List ℕ) → GrowsBy watched watched' → GrowsBy next next' → AreLinked watched heads next slots first off → AreLinked watched' heads next' slots first off
  more_room watched' next' first off (wm, we) (nm, ne) a = rw (we, ne) (record {
    chain = chain_longer next nm slots first off a.room a.inside a.chain;
    once = a.once;
    inside = a.inside;
    room = omega (arith, a.room, length-append next nm);
    watch_room = omega (arith, a.watch_room, length-append watched wm);
    few = a.few;
    lists = λ c lt.
        let o = a.lists c lt in (
          o.0,
          record {
            chain = chain_longer next nm slots (get_or heads c 0) o.0 a.room (λ t i. (o.1.sound t i).0) o.1.chain;
            once = o.1.once;
            sound = λ t i.
                let s = o.1.sound t i in
                (s.0, get_or_append_left watched wm 0 t (omega (arith, s.0, a.watch_room)) ∙ s.1, s.2);
            complete = λ t low at out. o.1.complete t low (sym (get_or_append_left watched wm 0 t (omega (arith, low, a.watch_room))) ∙ at) out;
          },
        );
  })

  -- what was taken off has few slots, and none where its first slot is none
  pub few_off : (first : ℕ) (off : List ℕ) → AreLinked watched heads next slots first off → length off ≤ slots
  few_off first off a = few_once off slots a.once a.inside

  pub none_off : (off : List ℕ) → AreLinked watched heads next slots none off → off ≡ []
  none_off [] a = refl
  none_off (s ∷ ss) a = let low : s < slots = a.inside s (contains_head s ss) in let e : none ≡ s = a.chain.0 in absurd (omega (arith, a.few))

  -- a first slot that isn't none begins the list
  pub some_off : (first : ℕ) (off : List ℕ) → AreLinked watched heads next slots first off → first ≢ none → (rest : List ℕ) × (off ≡ first ∷ rest)
  some_off first [] a n = absurd (n a.chain)
  some_off first (s ∷ ss) a n = (ss, ap (λ t. t ∷ ss) (sym a.chain.0))

-- nothing is linked at the start
pub linked_start : (watched heads next : List ℕ) → All (λ first. first ≡ none) heads → AreLinked watched heads next 0 none []
linked_start watched heads next all = record {
  chain = refl;
  once = tt;
  inside = λ s i. absurd (contains_nothing s i);
  room = omega arith;
  watch_room = omega arith;
  few = omega arith;
  lists = λ code lt. (
    [],
    record {
      chain = all code 0 lt;
      once = tt;
      sound = λ s i. absurd (contains_nothing s i);
      complete = λ s low at out. absurd (omega (arith, low));
    },
  );
}
