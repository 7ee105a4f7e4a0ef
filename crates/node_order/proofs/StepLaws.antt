-- What a step of the search keeps, and how many are left.
use Rattle.std.proofs.Common.{◌≡◌, ◌⊎◌, ◌↔◌, ◌≢◌, ℕ, zero, suc, ◌+◌, ◌<◌, ◌≤◌, List, [], ◌∷◌, ◌++◌, length, get_or, set, take, reverse, refl, sym, ap, ◌∙◌, subst, inl, inr, ⊎_elim, arith, replicate}
use Rattle.std.specs.Prelude.{Contains, All}
use Rattle.std.proofs.lemmas.List.{get_or_read, reverse-append, length-set, get_or-set_same, get_or-set_other, take-append-le, take_all, take_more, get_or_append_left, get_or_push, length_push, get_or_past, get_or-replicate, length-replicate, take_at}
use Rattle.std.proofs.lemmas.List.Elements.{Contains-get_or, All-nil, All-push, All-weaker, Contains-append_left, Contains-push, Contains-push_cases}
use Rattle.std.proofs.lemmas.Bool.{cases_eq, cases_lt}
use Rattle.node_order.specs.declared.search.Mark.{Mark}
use Rattle.node_order.specs.declared.search.Mark.TheVariants.{New, Open, Done}
use Rattle.node_order.specs.declared.search.Visit.{Visit}
use Rattle.node_order.specs.Graph.{refers_of, Refers, IsInOrder, IsOrder}
use Rattle.node_order.specs.Walks.{WalksTo, HasCycle}
use Rattle.node_order.specs.declared.search.Search.{Search}
use Rattle.node_order.specs.Searching.{IsOn, LeadsTo, IsPath, IsSearch, IsSearching, weight, new_work, path_of, work, Keeps, Advances, Visits, FindsCycle}
use Rattle.node_order.proofs.GraphLaws.{none_in}
use Rattle.node_order.proofs.WalkLaws.{walk_push, cycle_from_walk, none_on_cycle}

-- a longer order keeps a path
path_longer : (g : List (List ℕ)) (order : List ℕ) (x : ℕ) (path : List Visit) → IsPath g order path → IsPath g (order ++ x ∷ []) path
path_longer g order x [] p = tt
path_longer g order x (v ∷ path) p = (p.0, p.1, All-weaker (Contains order) (Contains (order ++ x ∷ [])) (λ y c. Contains-append_left order (x ∷ []) y c) (take v.next (refers_of g v.node)) p.2, path_longer g order x path p.3)

-- one more node in order
order_push : (g : List (List ℕ)) (order : List ℕ) (x : ℕ) → IsInOrder g order → ¬ Contains order x → All (Contains order) (refers_of g x) → IsInOrder g (order ++ x ∷ [])
order_push g order x o n a = record { once = λ k h. once k (cases_lt k (length order)) h; after = λ k h. after k (cases_lt k (length order)) h }
  where
    at_end : (k : ℕ) → length order ≤ k → k < length (order ++ x ∷ []) → length order ≡ k
    at_end k g h = omega (arith, length_push order x, g, h)

    once : (k : ℕ) → (k < length order) ⊎ (length order ≤ k) → k < length (order ++ x ∷ []) → ¬ Contains (take k (order ++ x ∷ [])) (get_or (order ++ x ∷ []) k 0)
    once k (inl l) h = rw (take-append-le k order (x ∷ []) (omega (arith, l)), get_or_append_left order (x ∷ []) 0 k l) (o.once k l)
    once k (inr l) h = let e = at_end k l h in rw (take_at order (x ∷ []) k e, get_or_push order x 0 k e) n

    after : (k : ℕ) → (k < length order) ⊎ (length order ≤ k) → k < length (order ++ x ∷ []) → All (Contains (take k (order ++ x ∷ []))) (refers_of g (get_or (order ++ x ∷ []) k 0))
    after k (inl l) h = rw (take-append-le k order (x ∷ []) (omega (arith, l)), get_or_append_left order (x ∷ []) 0 k l) (o.after k l)
    after k (inr l) h = let e = at_end k l h in rw (take_at order (x ∷ []) k e, get_or_push order x 0 k e) a

done_below : (marks : List Mark) (a : ℕ) → get_or marks a New ≡ Done → a < length marks
done_below marks a e = by (cases_lt a (length marks))
  where
    by : (a < length marks) ⊎ (length marks ≤ a) → a < length marks
    by (inl h) = h
    by (inr h) = let p = get_or_past marks a New h in absurd (cc)

open_below : (g : List (List ℕ)) (marks : List Mark) (a : ℕ) → get_or marks a New ≡ Open → a < length marks
open_below g marks a e = by (cases_lt a (length marks))
  where
    by : (a < length marks) ⊎ (length marks ≤ a) → a < length marks
    by (inl h) = h
    by (inr h) = let p = get_or_past marks a New h in absurd (cc)

-- ---- a node whose references are all in the order

module _ (g : List (List ℕ)) (marks : List Mark) (v : Visit) (path : List Visit) (order : List ℕ) (s : IsSearch g marks (v ∷ path) order) where
  top_open : get_or marks v.node New ≡ Open
  top_open = (s.opened v.node).1 (inl refl)

  pub top_below : v.node < length marks
  top_below = open_below g marks v.node top_open

  not_yet : ¬ Contains order v.node
  not_yet c = let d = (s.done v.node).1 c in let o = top_open in absurd (cc)

  pub finished : length (refers_of g v.node) ≤ v.next → IsSearch g (set marks v.node Done) path (order ++ v.node ∷ [])
  finished h = record {
    count = length-set marks v.node Done ∙ s.count;
    opened = λ a. opened a (cases_eq a v.node);
    done = λ a. done a (cases_eq a v.node);
    linked = path_longer g order v.node path s.linked.3;
    in_order = order_push g order v.node s.in_order not_yet (subst (λ (t : List ℕ). All (Contains order) t) (take_all v.next (refers_of g v.node) h) s.linked.2);
  }
    where
      same : (a : ℕ) → a ≡ v.node → get_or (set marks v.node Done) a New ≡ Done
      same a e = ap (λ (n : ℕ). get_or (set marks v.node Done) n New) e ∙ get_or-set_same marks v.node Done New top_below

      opened : (a : ℕ) → (a ≡ v.node) ⊎ (a ≢ v.node) → (get_or (set marks v.node Done) a New ≡ Open) ↔ IsOn path a
      opened a (inl e) = (λ o. let d = same a e in absurd (cc), λ on. absurd (s.linked.1 (subst (λ (n : ℕ). IsOn path n) e on)))
      opened a (inr n) = let k = get_or-set_other marks v.node a Done New n in (λ o. ⊎_elim (λ e. absurd (n (sym e))) (λ on. on) ((s.opened a).0 (sym k ∙ o)), λ on. k ∙ (s.opened a).1 (inr on))

      done : (a : ℕ) → (a ≡ v.node) ⊎ (a ≢ v.node) → (get_or (set marks v.node Done) a New ≡ Done) ↔ Contains (order ++ v.node ∷ []) a
      done a (inl e) = (λ d. subst (λ (n : ℕ). Contains (order ++ v.node ∷ []) n) (sym e) (Contains-push order v.node), λ c. same a e)
      done a (inr n) = let k = get_or-set_other marks v.node a Done New n in (λ d. Contains-append_left order (v.node ∷ []) a ((s.done a).0 (sym k ∙ d)), λ c. k ∙ (s.done a).1 (⊎_elim (λ i. i) (λ e. absurd (n (sym e))) (Contains-push_cases order v.node a c)))

  -- ---- a reference to a node that is in the order

  pub passed : (to : ℕ) → v.next < length (refers_of g v.node) → get_or (refers_of g v.node) v.next 0 ≡ to → get_or marks to New ≡ Done
      → IsSearch g marks (record { node = v.node; next = v.next + 1 } ∷ path) order
  passed to h e d = record {
    count = s.count;
    opened = s.opened;
    done = s.done;
    linked = (s.linked.0, s.linked.1, subst (λ (t : List ℕ). All (Contains order) t) (sym (take_more (refers_of g v.node) v.next 0 h)) (All-push (Contains order) (take v.next (refers_of g v.node)) (get_or (refers_of g v.node) v.next 0) s.linked.2 (subst (Contains order) (sym e) ((s.done to).0 d))), s.linked.3);
    in_order = s.in_order;
  }

-- ---- a new node on the path

pub entered : (g : List (List ℕ)) (marks : List Mark) (path : List Visit) (order : List ℕ) (to : ℕ) → IsSearch g marks path order → to < length marks → LeadsTo g path to → get_or marks to New ≡ New
    → IsSearch g (set marks to Open) (record { node = to; next = 0 } ∷ path) order
entered g marks path order to s h l new = record {
  count = length-set marks to Open ∙ s.count;
  opened = λ a. opened a (cases_eq a to);
  done = λ a. done a (cases_eq a to);
  linked = (l, (λ on. let o = (s.opened to).1 on in absurd (cc)), All-nil (Contains order), s.linked);
  in_order = s.in_order;
}
  where
    same : (a : ℕ) → a ≡ to → get_or (set marks to Open) a New ≡ Open
    same a e = ap (λ (n : ℕ). get_or (set marks to Open) n New) e ∙ get_or-set_same marks to Open New h

    opened : (a : ℕ) → (a ≡ to) ⊎ (a ≢ to) → (get_or (set marks to Open) a New ≡ Open) ↔ ((to ≡ a) ⊎ IsOn path a)
    opened a (inl e) = (λ o. inl (sym e), λ on. same a e)
    opened a (inr n) = let k = get_or-set_other marks to a Open New n in (λ o. inr ((s.opened a).0 (sym k ∙ o)), λ on. k ∙ (s.opened a).1 (⊎_elim (λ e. absurd (n (sym e))) (λ i. i) on))

    done : (a : ℕ) → (a ≡ to) ⊎ (a ≢ to) → (get_or (set marks to Open) a New ≡ Done) ↔ Contains order a
    done a (inl e) = (λ d. let o = same a e in absurd (cc), λ c. let d = (s.done to).1 (subst (Contains order) e c) in absurd (cc))
    done a (inr n) = let k = get_or-set_other marks to a Open New n in (λ d. (s.done a).0 (sym k ∙ d), λ c. k ∙ (s.done a).1 c)

-- ---- a reference to a node on the path

-- from a node on the path its top is reached
up : (g : List (List ℕ)) (order : List ℕ) (v : Visit) (path : List Visit) (a : ℕ) → IsPath g order (v ∷ path) → IsOn (v ∷ path) a → (nodes : List ℕ) × WalksTo g a nodes v.node
up g order v path a p (inl e) = ([], sym e)
up g order v [] a p (inr on) = absurd on
up g order v (u ∷ path) a p (inr on) = let r = up g order u path a p.3 on in (r.0 ++ v.node ∷ [], walk_push g a r.0 u.node v.node r.1 p.0)

pub closed : (g : List (List ℕ)) (marks : List Mark) (v : Visit) (path : List Visit) (order : List ℕ) → IsSearch g marks (v ∷ path) order → (to : ℕ) → Refers g v.node to → get_or marks to New ≡ Open → HasCycle g
closed g marks v path order s to r o =
    let w = up g order v path to s.linked ((s.opened to).0 o) in
    (to ∷ (w.0 ++ to ∷ []), cycle_from_walk g to (w.0 ++ to ∷ []) (omega (arith, length_push w.0 to)) (walk_push g to w.0 v.node to w.1 r))

-- ---- before the first step, and what is left to do

pub begun : (g : List (List ℕ)) → IsSearch g (replicate (length g) New) [] []
begun g = record {
  count = length-replicate (length g) New;
  opened = λ a. (λ o. let n = all_new a in absurd (cc), λ on. absurd on);
  done = λ a. (λ d. let n = all_new a in absurd (cc), λ c. absurd (none_in a c));
  linked = tt;
  in_order = record { once = λ k h. absurd (omega (arith, h)); after = λ k h. absurd (omega (arith, h)) };
}
  where
    all_new : (a : ℕ) → get_or (replicate (length g) New) a New ≡ New
    all_new a = by (cases_lt a (length g))
      where
        by : (a < length g) ⊎ (length g ≤ a) → get_or (replicate (length g) New) a New ≡ New
        by (inl l) = get_or-replicate (length g) a New New l
        by (inr l) = get_or_past (replicate (length g) New) a New (rw (length-replicate (length g) New) l)

pub new_work-set : (marks : List Mark) (g : List (List ℕ)) (i : ℕ) (m : Mark) → length marks ≡ length g → i < length marks
    → new_work (set marks i m) g + weight (get_or marks i New) (refers_of g i) ≡ new_work marks g + weight m (refers_of g i)
new_work-set [] g i m e h = absurd (omega (arith, h))
new_work-set (n ∷ marks) [] i m e h = absurd (omega (arith, e))
new_work-set (n ∷ marks) (nodes ∷ g) zero m e h = omega arith
new_work-set (n ∷ marks) (nodes ∷ g) (suc i) m e h = omega (arith, new_work-set marks g i m (omega (arith, e)) (omega (arith, h)))

-- a mark that is not new keeps what is not new
pub keeps_set : (marks : List Mark) (i : ℕ) (m : Mark) → m ≢ New → Keeps marks (set marks i m)
keeps_set marks i m n a h = by (cases_eq a i) (cases_lt i (length marks))
  where
    by : (a ≡ i) ⊎ (a ≢ i) → (i < length marks) ⊎ (length marks ≤ i) → get_or (set marks i m) a New ≢ New
    by (inl e) (inl l) = λ z. n (sym (ap (λ (k : ℕ). get_or (set marks i m) k New) e ∙ get_or-set_same marks i m New l) ∙ z)
    by (inl e) (inr l) = absurd (h (get_or_past marks a New (omega (arith, e, l))))
    by (inr d) l = λ z. h (sym (get_or-set_other marks i a m New d) ∙ z)

-- ---- steps

pub reverse_push : (path : List Visit) (v : Visit) → reverse (path ++ v ∷ []) ≡ v ∷ reverse path
reverse_push path v = reverse-append path (v ∷ [])

module _ (g : List (List ℕ)) (v : Visit) (old new : Search) (s : IsSearch g old.marks.items (v ∷ path_of old) old.order.items) where
  pub advance_at_end : length (refers_of g v.node) ≤ v.next → new.marks.items ≡ set old.marks.items v.node Done → new.path.items ≡ old.path.items → new.order.items ≡ old.order.items ++ v.node ∷ []
      → Advances g v old new
  advance_at_end h m p o = record {
    search = rw (m, p, o) (finished g old.marks.items v (path_of old) old.order.items s h);
    less = rw (m, p) less;
    kept = rw m (keeps_set old.marks.items v.node Done (λ e. cc));
  }
    where
      less : work g (set old.marks.items v.node Done) (path_of old) < work g old.marks.items (v ∷ path_of old)
      less = let w = new_work-set old.marks.items g v.node Done s.count (top_below g old.marks.items v (path_of old) old.order.items s) in omega (arith, w)

  pub advance_past : (to : ℕ) → v.next < length (refers_of g v.node) → get_or (refers_of g v.node) v.next 0 ≡ to → get_or old.marks.items to New ≡ Done
      → new.marks.items ≡ old.marks.items → new.path.items ≡ old.path.items ++ record { node = v.node; next = v.next + 1 } ∷ [] → new.order.items ≡ old.order.items → Advances g v old new
  advance_past to h e d m p o = record {
    search = rw (m, p, o, reverse_push old.path.items (record { node = v.node; next = v.next + 1 })) (passed g old.marks.items v (path_of old) old.order.items s to h e d);
    less = rw (m, p, reverse_push old.path.items (record { node = v.node; next = v.next + 1 })) (omega (arith, h));
    kept = rw m (λ a n. n);
  }

  pub advance_into : (to : ℕ) → Refers g v.node to → to < length old.marks.items → get_or old.marks.items to New ≡ New → (between : List Visit)
      → new.marks.items ≡ set old.marks.items to Open → between ≡ old.path.items ++ v ∷ [] → new.path.items ≡ between ++ record { node = to; next = 0 } ∷ [] → new.order.items ≡ old.order.items → Advances g v old new
  advance_into to r b n between m q p o = record {
    search = rw (m, o, path) (entered g old.marks.items (v ∷ path_of old) old.order.items to s b r n);
    less = rw (m, path) less;
    kept = rw m (keeps_set old.marks.items to Open (λ e. cc));
  }
    where
      path : reverse new.path.items ≡ record { node = to; next = 0 } ∷ v ∷ path_of old
      path = ap reverse p ∙ (reverse_push between (record { node = to; next = 0 }) ∙ ap (λ (t : List Visit). record { node = to; next = 0 } ∷ t) (ap reverse q ∙ reverse_push old.path.items v))

      less : work g (set old.marks.items to Open) (record { node = to; next = 0 } ∷ v ∷ path_of old) < work g old.marks.items (v ∷ path_of old)
      less = let w = subst (λ (k : Mark). new_work (set old.marks.items to Open) g + weight k (refers_of g to) ≡ new_work old.marks.items g + 0) n (new_work-set old.marks.items g to Open s.count b) in omega (arith, w)

  -- ---- at the reference that is looked at next
  module _ (nodes : List ℕ) (e : nodes ≡ refers_of g v.node) (h : v.next < length nodes) where
    referred : Refers g v.node (get_or nodes v.next 0)
    referred = subst (λ (t : List ℕ). Contains t (get_or nodes v.next 0)) e (Contains-get_or nodes v.next 0 h)

    pub met_open : get_or old.marks.items (get_or nodes v.next 0) New ≡ Open → new.marks.items ≡ old.marks.items → FindsCycle g new
    met_open m e = record {
      count = rw e s.count;
      cycle = closed g old.marks.items v (path_of old) old.order.items s (get_or nodes v.next 0) referred m;
      off = rw e (λ a d. none_on_cycle g old.order.items s.in_order a ((s.done a).0 d));
    }

    pub met_done : get_or old.marks.items (get_or nodes v.next 0) New ≡ Done → new.marks.items ≡ old.marks.items → new.path.items ≡ old.path.items ++ record { node = v.node; next = v.next + 1 } ∷ [] → new.order.items ≡ old.order.items → Advances g v old new
    met_done d = advance_past (get_or nodes v.next 0) (subst (λ (t : List ℕ). v.next < length t) e h) (ap (λ (t : List ℕ). get_or t v.next 0) (sym e)) d

    pub met_new : get_or nodes v.next 0 < length old.marks.items → get_or old.marks.items (get_or nodes v.next 0) New ≡ New → (between : List Visit)
        → new.marks.items ≡ set old.marks.items (get_or nodes v.next 0) Open → between ≡ old.path.items ++ v ∷ [] → new.path.items ≡ between ++ record { node = get_or nodes v.next 0; next = 0 } ∷ [] → new.order.items ≡ old.order.items → Advances g v old new
    met_new b n = advance_into (get_or nodes v.next 0) referred b n

pub mark_met : (marks : List Mark) (to : ℕ) (x m : Mark) → to < length marks → x ≡ get_or marks to x → x ≡ m → get_or marks to New ≡ m
mark_met marks to x m h e i = sym (get_or_read marks to x h e New) ∙ i

-- ---- visits

neither : (m : Mark) → m ≢ New → m ≢ Open → m ≡ Done
neither New n o = absurd (n refl)
neither Open n o = absurd (o refl)
neither Done n o = refl

-- with an empty path, what is not new is in the order
pub in_the_order : (g : List (List ℕ)) (marks : List Mark) (order : List ℕ) → IsSearch g marks [] order → (a : ℕ) → get_or marks a New ≢ New → Contains order a
in_the_order g marks order s a n = (s.done a).0 (neither (get_or marks a New) n (s.opened a).0)

pub visits : (g : List (List ℕ)) (root : ℕ) (old new : Search) → IsSearching g old → IsSearching g new → new.path.items ≡ [] → get_or new.marks.items root New ≢ New → Keeps old.marks.items new.marks.items
    → Visits g root old new
visits g root old new s t e n k = record {
  search = t;
  empty = e;
  visited = in_the_order g new.marks.items new.order.items empty root n;
  kept = λ a c. in_the_order g new.marks.items new.order.items empty a (k a (λ z. let d = (s.done a).1 c in absurd (cc)));
}
  where
    empty : IsSearch g new.marks.items [] new.order.items
    empty = subst (λ (p : List Visit). IsSearch g new.marks.items (reverse p) new.order.items) e t

-- the first node on the path
pub entered_first : (g : List (List ℕ)) (root : ℕ) (old new : Search) → IsSearching g old → old.path.items ≡ [] → root < length old.marks.items → get_or old.marks.items root New ≡ New
    → new.marks.items ≡ set old.marks.items root Open → new.path.items ≡ old.path.items ++ record { node = root; next = 0 } ∷ [] → new.order.items ≡ old.order.items → IsSearching g new
entered_first g root old new s e h n m p o = rw (m, o, p, e) (entered g old.marks.items [] old.order.items root (subst (λ (t : List Visit). IsSearch g old.marks.items (reverse t) old.order.items) e s) h tt n)

pub not_new_now : (marks : List Mark) (root : ℕ) → root < length marks → get_or (set marks root Open) root New ≢ New
not_new_now marks root h e = let o = get_or-set_same marks root Open New h in absurd (cc)

pub keeps_both : (a b c : List Mark) → Keeps a b → Keeps b c → Keeps a c
keeps_both a b c p q x n = q x (p x n)

-- ---- the whole order

-- all nodes below this one are in the order, and the path is empty
pub record OrdersBelow (g : List (List ℕ)) (node : ℕ) (s : Search) : Type 0 where
  pub search : IsSearching g s
  pub empty : s.path.items ≡ []
  pub ordered : (a : ℕ) → a < node → Contains s.order.items a

pub orders_none : (g : List (List ℕ)) (s : Search) → IsSearching g s → s.path.items ≡ [] → OrdersBelow g 0 s
orders_none g s t e = record { search = t; empty = e; ordered = λ a h. absurd (omega (arith, h)) }

pub orders_more : (g : List (List ℕ)) (node : ℕ) (old new : Search) → OrdersBelow g node old → Visits g node old new → OrdersBelow g (node + 1) new
orders_more g node old new o v = record { search = v.search; empty = v.empty; ordered = λ a h. by a h (cases_eq a node) }
  where
    by : (a : ℕ) → a < node + 1 → (a ≡ node) ⊎ (a ≢ node) → Contains new.order.items a
    by a h (inl e) = subst (Contains new.order.items) (sym e) v.visited
    by a h (inr n) = v.kept a (o.ordered a (omega (arith, h, n)))

pub orders_all : (g : List (List ℕ)) (node : ℕ) (s : Search) → length g ≤ node → OrdersBelow g node s → IsOrder g s.order.items
orders_all g node s h o = record {
  all = λ a i. o.ordered a (omega (arith, h, i));
  only = λ k d i. omega (arith, o.search.count, done_below s.marks.items (get_or s.order.items k d) ((o.search.done (get_or s.order.items k d)).1 (Contains-get_or s.order.items k d i)));
  in_order = o.search.in_order;
}
