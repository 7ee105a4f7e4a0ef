-- The items of sources that have lines, in their order.
use Rattle.std.proofs.Common.{◌≡◌, ℕ, ◌+◌, ◌<◌, Bool, true, false, List, [], ◌∷◌, ◌++◌, length, get_or, refl, ap, sym, subst, ◌∙◌, inl, inr, arith, map}
use Rattle.std.specs.declared.cmp.Ordering.TheVariants.{Less}
use Rattle.ut_logic.specs.declared.item.Item.{Item}
use Rattle.ut_logic.specs.declared.item.Item.TheVariants.{SymY, SymM, Undeclared, ModeY, ModeM, Outer, Same, Below, StartD, StartT, Truth, Piece, Line, Block, StateD, StateT}
use Rattle.ut_logic.specs.Item.{item_cmp, item_key}
use Rattle.ut_report.specs.Groups.{each_from}
use Rattle.report_lines.proofs.RisingLists.{In, Rising, in_some, in_front, in_back, in_either, at_part, in_map, map_in, joined_rising, each_rising, map_rising}
use Rattle.report_lines.proofs.ItemOrder.{first_before, kind_before, second_before}

abbrev pub Before : Item → Item → Type 0
Before x y = item_cmp x y ≡ Less

-- an item that has a line, where it is true
abbrev pub has_line : Item → Bool
has_line (SymY k) = false
has_line (SymM k) = false
has_line (Undeclared k) = false
has_line (ModeY i) = false
has_line (ModeM i) = false
has_line (Outer k) = false
has_line (Same sym k) = false
has_line (Below sym k) = false
has_line (StartD file n) = true
has_line (StartT file n) = false
has_line (Truth file n) = true
has_line (Piece file k) = true
has_line (Line file line) = true
has_line (Block file block) = false
has_line (StateD file n turn) = false
has_line (StateT file n turn) = false

-- it has a line of this kind, in this source
pub record Place (kind file : ℕ) (i : Item) : Type 0 where
  pub kind_is : (item_key i).kind ≡ kind
  pub file_is : (item_key i).first ≡ file
  pub lined : has_line i ≡ true

-- the items of one kind
module _ {S : Type 0} (kind : ℕ) (f : ℕ → S → List Item) (places : (file : ℕ) (s : S) (i : Item) → In (f file s) i → Place kind file i) where
  placed : (ss : List S) (i : Item) → In (each_from f 0 ss) i → (file : ℕ) × Place kind file i
  placed ss i h = let r = in_some f 0 ss i h in (r.0, places r.0 r.1 i r.3)

  kind_rising : (ss : List S) → ((k : ℕ) (d : S) → k < length ss → Rising Before (f k (get_or ss k d))) → Rising Before (each_from f 0 ss)
  kind_rising ss h =
      each_rising Before f (λ j k a b x y l p q. let here = places j a x p in let there = places k b y q in
      first_before x y (here.kind_is ∙ sym there.kind_is) (omega (arith, here.file_is, there.file_is, l))) 0 ss (λ k d l. let e : k ≡ 0 + k = omega arith in
      subst (λ m. Rising Before (f m (get_or ss k d))) e (h k d l))

-- one item for each element
abbrev pub singles : {S N : Type 0} → (ℕ → ℕ → Item) → (S → List N) → ℕ → S → List Item
singles make elements file s = each_from (λ n a. make file n ∷ []) 0 (elements s)

module _ {S N : Type 0} (kind : ℕ) (make : ℕ → ℕ → Item) (is : (file n : ℕ) → Place kind file (make file n)) (counts : (file n : ℕ) → (item_key (make file n)).second ≡ n) (elements : S → List N) where
  single_places : (file : ℕ) (s : S) (i : Item) → In (singles make elements file s) i → Place kind file i
  single_places file s i h = let r = in_some (λ n a. make file n ∷ []) 0 (elements s) i h in elim r.3 [ inl e ↦ subst (Place kind file) e (is file r.0) | inr g ↦ absurd g ]

  one_before : (file j k : ℕ) (x y : Item) → j < k → In (make file j ∷ []) x → In (make file k ∷ []) y → Before x y
  one_before file j k x y l (inl p) (inl q) =
      let here = is file j in let there = is file k in
      subst (λ z. Before z y) p (subst (Before (make file j)) q (second_before (make file j) (make file k) (here.kind_is ∙ sym there.kind_is) (here.file_is ∙ sym there.file_is)
      (omega (arith, counts file j, counts file k, l))))
  one_before file j k x y l (inl p) (inr q) = absurd q
  one_before file j k x y l (inr p) q = absurd p

  single_rising : (file : ℕ) (s : S) → Rising Before (singles make elements file s)
  single_rising file s = each_rising Before (λ n a. make file n ∷ []) (λ j k a b x y l p q. one_before file j k x y l p q) 0 (elements s) (λ k d l. (tt, tt))

  pub singles_rising : (ss : List S) → Rising Before (each_from (singles make elements) 0 ss)
  singles_rising ss = kind_rising kind (singles make elements) single_places ss (λ k d l. single_rising k (get_or ss k d))

  pub singles_placed : (ss : List S) (i : Item) → In (each_from (singles make elements) 0 ss) i → (file : ℕ) × Place kind file i
  singles_placed = placed kind (singles make elements) single_places

  pub single_in : (ss : List S) (file n : ℕ) (d : S) (e : N) → file < length ss → n < length (elements (get_or ss file d)) → In (each_from (singles make elements) 0 ss) (make file n)
  single_in ss file n d e l m =
      let none : 0 + n ≡ n = omega arith in let nil : 0 + file ≡ file = omega arith in
      let here : In (singles make elements file (get_or ss file d)) (make file n) = at_part (λ k a. make file k ∷ []) 0 (elements (get_or ss file d)) n e (make file n) m (inl (ap (make file) none)) in
      at_part (singles make elements) 0 ss file d (make file n) l (subst (λ k. In (singles make elements k (get_or ss file d)) (make file n)) (sym nil) here)

-- one item for each line
module _ {S : Type 0} (lines : S → List ℕ) where
  abbrev pub line_items : ℕ → S → List Item
  line_items file s = map (Line file) (lines s)

  line_places : (file : ℕ) (s : S) (i : Item) → In (line_items file s) i → Place 8 file i
  line_places file s i h = let r = map_in (Line file) (lines s) i h in subst (Place 8 file) r.2 (record { kind_is = refl; file_is = refl; lined = refl })

  pub lines_rising : (ss : List S) → ((k : ℕ) (d : S) → k < length ss → Rising (λ a b. a < b) (lines (get_or ss k d))) → Rising Before (each_from line_items 0 ss)
  lines_rising ss h = kind_rising 8 line_items line_places ss (λ k d l. map_rising Before (λ a b. a < b) (Line k) (λ a b m. second_before (Line k a) (Line k b) refl refl m) (lines (get_or ss k d)) (h k d l))

  pub lines_placed : (ss : List S) (i : Item) → In (each_from line_items 0 ss) i → (file : ℕ) × Place 8 file i
  lines_placed = placed 8 line_items line_places

  pub line_in : (ss : List S) (file line : ℕ) (d : S) → file < length ss → In (lines (get_or ss file d)) line → In (each_from line_items 0 ss) (Line file line)
  line_in ss file line d l h = let nil : 0 + file ≡ file = omega arith in
      at_part line_items 0 ss file d (Line file line) l (subst (λ k. In (line_items k (get_or ss file d)) (Line file line)) (sym nil) (in_map (Line file) (lines (get_or ss file d)) line h))

-- ---- all of them

place_start : (file n : ℕ) → Place 5 file (StartD file n)
place_start file n = record { kind_is = refl; file_is = refl; lined = refl }

place_truth : (file n : ℕ) → Place 6 file (Truth file n)
place_truth file n = record { kind_is = refl; file_is = refl; lined = refl }

place_piece : (file n : ℕ) → Place 7 file (Piece file n)
place_piece file n = record { kind_is = refl; file_is = refl; lined = refl }

module _ {S N P : Type 0} (names : S → List N) (pieces : S → List P) (lines : S → List ℕ) (ss : List S) where
  abbrev pub start_items : List Item
  start_items = each_from (singles StartD names) 0 ss

  abbrev pub truth_items : List Item
  truth_items = each_from (singles Truth names) 0 ss

  abbrev pub piece_items : List Item
  piece_items = each_from (singles Piece pieces) 0 ss

  abbrev pub all_lines : List Item
  all_lines = each_from (line_items lines) 0 ss

  -- all items that have lines
  abbrev pub all_items : List Item
  all_items = start_items ++ (truth_items ++ (piece_items ++ all_lines))

  at_start : (i : Item) → In start_items i → (file : ℕ) × Place 5 file i
  at_start = singles_placed 5 StartD place_start (λ f n. refl) names ss

  at_truth : (i : Item) → In truth_items i → (file : ℕ) × Place 6 file i
  at_truth = singles_placed 6 Truth place_truth (λ f n. refl) names ss

  at_piece : (i : Item) → In piece_items i → (file : ℕ) × Place 7 file i
  at_piece = singles_placed 7 Piece place_piece (λ f n. refl) pieces ss

  at_line : (i : Item) → In all_lines i → (file : ℕ) × Place 8 file i
  at_line = lines_placed lines ss

  apart : (x y : Item) (k l : ℕ) → k < l → (file : ℕ) × Place k file x → (file : ℕ) × Place l file y → Before x y
  apart x y k l lt p q = kind_before x y (omega (arith, p.1.kind_is, q.1.kind_is, lt))

  pub all_rising : ((k : ℕ) (d : S) → k < length ss → Rising (λ a b. a < b) (lines (get_or ss k d))) → Rising Before all_items
  all_rising h =
      let four : Rising Before all_lines = lines_rising lines ss h in
      let three : Rising Before (piece_items ++ all_lines) = joined_rising Before piece_items all_lines (singles_rising 7 Piece place_piece (λ f n. refl) pieces ss) four
      (λ x y p q. apart x y 7 8 (omega arith) (at_piece x p) (at_line y q)) in
      let two : Rising Before (truth_items ++ (piece_items ++ all_lines)) = joined_rising Before truth_items (piece_items ++ all_lines) (singles_rising 6 Truth place_truth (λ f n. refl) names ss) three
      (λ x y p q. elim (in_either piece_items all_lines y q) [ inl g ↦ apart x y 6 7 (omega arith) (at_truth x p) (at_piece y g) | inr g ↦ apart x y 6 8 (omega arith) (at_truth x p) (at_line y g) ]) in
      joined_rising Before start_items (truth_items ++ (piece_items ++ all_lines)) (singles_rising 5 StartD place_start (λ f n. refl) names ss) two
      (λ x y p q. elim (in_either truth_items (piece_items ++ all_lines) y q) [
        | inl g ↦ apart x y 5 6 (omega arith) (at_start x p) (at_truth y g)
        | inr g ↦ elim (in_either piece_items all_lines y g) [ inl k ↦ apart x y 5 7 (omega arith) (at_start x p) (at_piece y k) | inr k ↦ apart x y 5 8 (omega arith) (at_start x p) (at_line y k) ]
      ])

  pub all_lined : (i : Item) → In all_items i → has_line i ≡ true
  all_lined i h = elim (in_either start_items (truth_items ++ (piece_items ++ all_lines)) i h) [
    | inl g ↦ (at_start i g).1.lined
    | inr g ↦ elim (in_either truth_items (piece_items ++ all_lines) i g) [
      | inl k ↦ (at_truth i k).1.lined
      | inr k ↦ elim (in_either piece_items all_lines i k) [ inl l ↦ (at_piece i l).1.lined | inr l ↦ (at_line i l).1.lined ]
    ]
  ]

  pub has_start : (file n : ℕ) (d : S) (e : N) → file < length ss → n < length (names (get_or ss file d)) → In all_items (StartD file n)
  has_start file n d e l m = in_front start_items (truth_items ++ (piece_items ++ all_lines)) (StartD file n) (single_in 5 StartD place_start (λ f k. refl) names ss file n d e l m)

  pub has_truth : (file n : ℕ) (d : S) (e : N) → file < length ss → n < length (names (get_or ss file d)) → In all_items (Truth file n)
  has_truth file n d e l m = in_back start_items (truth_items ++ (piece_items ++ all_lines)) (Truth file n)
      (in_front truth_items (piece_items ++ all_lines) (Truth file n) (single_in 6 Truth place_truth (λ f k. refl) names ss file n d e l m))

  pub has_piece : (file n : ℕ) (d : S) (e : P) → file < length ss → n < length (pieces (get_or ss file d)) → In all_items (Piece file n)
  has_piece file n d e l m = in_back start_items (truth_items ++ (piece_items ++ all_lines)) (Piece file n)
      (in_back truth_items (piece_items ++ all_lines) (Piece file n) (in_front piece_items all_lines (Piece file n) (single_in 7 Piece place_piece (λ f k. refl) pieces ss file n d e l m)))

  pub has_free : (file line : ℕ) (d : S) → file < length ss → In (lines (get_or ss file d)) line → In all_items (Line file line)
  has_free file line d l h = in_back start_items (truth_items ++ (piece_items ++ all_lines)) (Line file line)
      (in_back truth_items (piece_items ++ all_lines) (Line file line) (in_back piece_items all_lines (Line file line) (line_in lines ss file line d l h)))
