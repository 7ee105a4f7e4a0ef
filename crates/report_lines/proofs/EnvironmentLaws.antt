-- The lines of the true items in order are those of the kinds of starts, truths, pieces and lines.
use Rattle.std.proofs.Common.{◌≡◌, ℕ, ◌+◌, ◌<◌, Bool, true, false, List, [], ◌∷◌, ◌++◌, length, get_or, map, refl, sym, ap, subst, ◌∙◌, arith, zero, suc}
use Rattle.std.specs.Prelude.{Option, Some, All, IsSorted, codes, decimal, if◌then◌else◌, is_some, slice_get, ◌==◌}
use Rattle.std.specs.List.{dedup, filter, flat_map, list_any}
use Rattle.std.proofs.lemmas.Bool.{false≢true}
use Rattle.std.proofs.lemmas.List.{append-nil}
use Rattle.std.proofs.lemmas.List.Concat.{flat_map-append}
use Rattle.std.proofs.lemmas.List.Elements.{All-get_or}
use Rattle.std.proofs.lemmas.List.Kept.{IsStrictlySortedBy-dedup}
use Rattle.std.proofs.lemmas.Option.{slice_get-get_or}
use Rattle.std.proofs.lemmas.Bool.Decides.{Decides-eqb}
use Rattle.ut_text.specs.Bytes.{Bytes}
use Rattle.ut_logic.specs.Assign.{is_in}
use Rattle.ut_logic.specs.Item.{item_cmp, item_eq, item_total}
use Rattle.ut_logic.specs.declared.item.Item.{Item}
use Rattle.ut_logic.specs.declared.item.Item.TheVariants.{SymY, SymM, Undeclared, ModeY, ModeM, Outer, Same, Below, StartD, StartT, Truth, Piece, Line, Block, StateD, StateT}
use Rattle.cpp_blocks.specs.declared.pieces.PieceOf.{PieceOf}
use Rattle.cpp_blocks.specs.Alike.{free_lines}
use Rattle.cpp_blocks.specs.Mentions.{names_of}
use Rattle.cpp_blocks.specs.Turns.{pieces_of}
use Rattle.kconf_tree.specs.Value.{Configuration}
use Rattle.ut_case.specs.declared.whole.Values.{Values}
use Rattle.ut_case.specs.declared.whole.Values.TheVariants.{Tree, Names}
use Rattle.ut_case.specs.declared.whole.Whole.{Whole}
use Rattle.ut_case.specs.Cases.{Case}
use Rattle.ut_case.specs.Posed.{IsRead}
use Rattle.ut_case.specs.Problem.{Problem, Source, directives_of, no_source, source_at}
use Rattle.ut_case.specs.Wholes.{Fits, case_of, environment_in, is_named}
use Rattle.ut_report.specs.Groups.{define_line, define_lines, each_from, in_file, kind_lines, piece_lines, start_lines, truth_lines, where_so}
use Rattle.ut_report.specs.Lines.{text_of}
use Rattle.report_lines.specs.Inside.{environment_kinds, given, item_text, items_text, kind_text, piece_text, start_text}
use Rattle.report_lines.proofs.FreeLines.{read_rises}
use Rattle.report_lines.proofs.ItemOrder.{never_before}
use Rattle.report_lines.proofs.Members.{dedup_in, in_any, in_dedup, in_item, item_in}
use Rattle.report_lines.proofs.PartTexts.{each_text, flat_filter, flat_kept, map_text}
use Rattle.report_lines.proofs.RisingLists.{In, filter_in, filter_rising, in_filter, one_list, sorted_rising, within}
use Rattle.report_lines.proofs.SourceItems.{Before, all_items, all_lined, all_lines, all_rising, has_free, has_line, has_piece, has_start, has_truth, piece_items, singles, start_items, truth_items}
use Rattle.report_lines.proofs.TextLaws.{kind_text-append, text_of-append}

abbrev names_at : Source → List Bytes
names_at s = names_of (directives_of s)

abbrev pieces_at : Source → List PieceOf
pieces_at s = pieces_of (directives_of s)

abbrev lines_at : Source → List ℕ
lines_at s = free_lines (directives_of s)

abbrev no_piece : PieceOf
no_piece = record { text = []; turn = 0 }

-- ---- members

some_within : {A : Type 0} (xs : List A) (k : ℕ) → is_some (slice_get xs k) ≡ true → k < length xs
some_within [] k h = absurd (false≢true h)
some_within (x ∷ xs) zero h = omega arith
some_within (x ∷ xs) (suc k) h = omega (arith, some_within xs k h)

module _ (p : Problem) where
  abbrev items : List Item
  items = all_items names_at pieces_at lines_at p.sources

  -- a macro is one of a source of the problem
  has_name : (file n : ℕ) → is_some (slice_get (names_at (source_at p file)) n) ≡ true → file < length p.sources
  has_name file n h = within (λ s. is_some (slice_get (names_at s) n) ≡ true) no_source (λ e. false≢true e) p.sources file h

  covered : (i : Item) → has_line i ≡ true → is_named p i ≡ true → In items i
  covered (SymY k) h n = absurd (false≢true h)
  covered (SymM k) h n = absurd (false≢true h)
  covered (Undeclared k) h n = absurd (false≢true h)
  covered (ModeY k) h n = absurd (false≢true h)
  covered (ModeM k) h n = absurd (false≢true h)
  covered (Outer k) h n = absurd (false≢true h)
  covered (Same sym k) h n = absurd (false≢true h)
  covered (Below sym k) h n = absurd (false≢true h)
  covered (StartD file k) h n = has_start names_at pieces_at lines_at p.sources file k no_source [] (has_name file k n) (some_within (names_at (source_at p file)) k n)
  covered (StartT file k) h n = absurd (false≢true h)
  covered (Truth file k) h n = has_truth names_at pieces_at lines_at p.sources file k no_source [] (has_name file k n) (some_within (names_at (source_at p file)) k n)
  covered (Piece file k) h n = has_piece names_at pieces_at lines_at p.sources file k no_source no_piece
      (within (λ s. is_some (slice_get (pieces_at s) k) ≡ true) no_source (λ e. false≢true e) p.sources file n) (some_within (pieces_at (source_at p file)) k n)
  covered (Line file line) h n = has_free names_at pieces_at lines_at p.sources file line no_source
      (within (λ s. list_any (λ (m : ℕ). m == line) (lines_at s) ≡ true) no_source (λ e. false≢true e) p.sources file n)
      (in_any (λ m. m == line) line (λ m e. (Decides-eqb m line).0 e) ((Decides-eqb line line).1 refl) (lines_at (source_at p file)) n)
  covered (Block file k) h n = absurd (false≢true h)
  covered (StateD file k turn) h n = absurd (false≢true h)
  covered (StateT file k turn) h n = absurd (false≢true h)

  -- the true items that have lines are the same both ways
  same_items : (env : List Item) → IsSorted item_cmp env → All (λ (s : Source). IsRead s.read) p.sources → ((i : Item) → is_in env i ≡ true → is_named p i ≡ true)
      → filter (is_in env) items ≡ filter has_line (dedup item_eq env)
  same_items env sorted read named =
      one_list Before never_before item_total.trans (filter (is_in env) items) (filter has_line (dedup item_eq env))
      (filter_rising Before (is_in env) items (all_rising names_at pieces_at lines_at p.sources (λ k d l. read_rises (get_or p.sources k d).read (All-get_or (λ (s : Source). IsRead s.read) p.sources k d l read))))
      (filter_rising Before has_line (dedup item_eq env) (sorted_rising item_cmp (dedup item_eq env) (IsStrictlySortedBy-dedup item_total (λ x y. refl) env sorted)))
      (λ x h. let r = in_filter (is_in env) items x h in filter_in has_line (dedup item_eq env) x (in_dedup env x (item_in env x r.1)) (all_lined names_at pieces_at lines_at p.sources x r.0))
      (λ x h. let r = in_filter has_line (dedup item_eq env) x h in let e = in_item env x (dedup_in env x r.0) in filter_in (is_in env) items x (covered x r.1 (named x e)) e)

-- ---- texts

module _ (p : Problem) (on : Bool) (env : List Item) where
  if_true : Item → Bytes
  if_true i = if is_in env i then item_text p (is_in env) on i else []

  unlined : (i : Item) → has_line i ≡ false → item_text p (is_in env) on i ≡ []
  unlined (SymY k) h = refl
  unlined (SymM k) h = refl
  unlined (Undeclared k) h = refl
  unlined (ModeY k) h = refl
  unlined (ModeM k) h = refl
  unlined (Outer k) h = refl
  unlined (Same sym k) h = refl
  unlined (Below sym k) h = refl
  unlined (StartD file k) h = absurd (false≢true (sym h))
  unlined (StartT file k) h = refl
  unlined (Truth file k) h = absurd (false≢true (sym h))
  unlined (Piece file k) h = absurd (false≢true (sym h))
  unlined (Line file line) h = absurd (false≢true (sym h))
  unlined (Block file k) h = refl
  unlined (StateD file k turn) h = refl
  unlined (StateT file k turn) h = refl

  one_line : {A : Type 0} (tag : Bytes) (b : Bool) (f : A → Bytes) (a : A) (got : Option A) → got ≡ Some a
      → kind_text on tag (where_so b (f a)) ≡ (if b then kind_text on tag (given f got) else []) ++ []
  one_line tag true f a got e = ap (λ o. kind_text on tag (given f o)) (sym e) ∙ sym (append-nil (kind_text on tag (given f got)))
  one_line tag false f a got e = refl

  -- the lines of one kind
  module _ {A : Type 0} (tag : Bytes) (make : ℕ → ℕ → Item) (elements : Source → List A) (d : A) (f : ℕ → ℕ → A → Bytes)
      (means : (file n : ℕ) → item_text p (is_in env) on (make file n) ≡ kind_text on tag (given (f file n) (slice_get (elements (source_at p file)) n))) where
    abbrev of_source : ℕ → Source → List Bytes
    of_source file s = each_from (λ n a. where_so (is_in env (make file n)) (f file n a)) 0 (elements s)

    one : (file n : ℕ) → n < length (elements (source_at p file))
        → kind_text on tag (where_so (is_in env (make file n)) (f file n (get_or (elements (source_at p file)) n d))) ≡ flat_map if_true (make file n ∷ [])
    unfolding if_true
    one file n l =
        one_line tag (is_in env (make file n)) (f file n) (get_or (elements (source_at p file)) n d) (slice_get (elements (source_at p file)) n) (slice_get-get_or (elements (source_at p file)) n d l)
        ∙ ap (λ t. (if is_in env (make file n) then t else []) ++ []) (sym (means file n))

    of_one : (file : ℕ) → kind_text on tag (of_source file (source_at p file)) ≡ flat_map if_true (singles make elements file (source_at p file))
    of_one file =
        each_text (kind_text on tag) refl (kind_text-append on tag) if_true (λ n a. where_so (is_in env (make file n)) (f file n a)) (λ n a. make file n ∷ []) d 0 (elements (source_at p file))
        (λ n l. let e : n ≡ 0 + n = omega arith in
        subst (λ m. kind_text on tag (where_so (is_in env (make file m)) (f file m (get_or (elements (source_at p file)) n d))) ≡ flat_map if_true (make file m ∷ [])) e (one file n l))

    of_all : kind_text on tag (each_from of_source 0 p.sources) ≡ flat_map if_true (each_from (singles make elements) 0 p.sources)
    of_all = each_text (kind_text on tag) refl (kind_text-append on tag) if_true of_source (singles make elements) no_source 0 p.sources
        (λ file l. let e : file ≡ 0 + file = omega arith in
        subst (λ m. kind_text on tag (of_source m (source_at p file)) ≡ flat_map if_true (singles make elements m (source_at p file))) e (of_one file))

  module _ (c : Configuration) where
    abbrev here : Case
    here = record { configuration = c; environment = is_in env }

    starts : kind_text on (codes "start") (each_from (start_lines here) 0 p.sources) ≡ flat_map if_true (start_items names_at pieces_at lines_at p.sources)
    starts = of_all (codes "start") StartD names_at [] (λ file n. start_text (is_in env (StartT file n)) file) (λ file n. refl)

    truths : kind_text on (codes "truth") (each_from (truth_lines here) 0 p.sources) ≡ flat_map if_true (truth_items names_at pieces_at lines_at p.sources)
    truths = of_all (codes "truth") Truth names_at [] (λ file n. in_file file) (λ file n. refl)

    pieces : kind_text on (codes "piece") (each_from (piece_lines here) 0 p.sources) ≡ flat_map if_true (piece_items names_at pieces_at lines_at p.sources)
    pieces = of_all (codes "piece") Piece pieces_at no_piece (λ file n. piece_text file) (λ file n. refl)

    one_define : (file line : ℕ) → kind_text on (codes "line") (define_line here file line) ≡ if_true (Line file line)
    unfolding if_true
    one_define file line = by (is_in env (Line file line))
      where
        by : (b : Bool) → kind_text on (codes "line") (where_so b (in_file file (decimal line))) ≡ (if b then kind_text on (codes "line") (in_file file (decimal line) ∷ []) else [])
        by true = refl
        by false = refl

    defines : kind_text on (codes "line") (each_from (define_lines here) 0 p.sources) ≡ flat_map if_true (all_lines names_at pieces_at lines_at p.sources)
    defines = each_text (kind_text on (codes "line")) refl (kind_text-append on (codes "line")) if_true (define_lines here) (λ file s. map (Line file) (lines_at s)) no_source 0 p.sources
        (λ file l. map_text (kind_text on (codes "line")) refl (kind_text-append on (codes "line")) if_true (define_line here (0 + file)) (Line (0 + file)) (one_define (0 + file)) (lines_at (source_at p file)))

    four : (a b m n : List Bytes) → text_of (a ++ (b ++ (m ++ (n ++ [])))) ≡ text_of a ++ (text_of b ++ (text_of m ++ text_of n))
    four a b m n = text_of-append a (b ++ (m ++ (n ++ []))) ∙ ap (λ t. text_of a ++ t) (text_of-append b (m ++ (n ++ [])) ∙ ap (λ t. text_of b ++ t) (text_of-append m (n ++ []) ∙ ap (λ t. text_of m ++ text_of t) (append-nil n)))

    kinds : text_of (flat_map (kind_lines on) (environment_kinds p here)) ≡ flat_map if_true (all_items names_at pieces_at lines_at p.sources)
    kinds =
        let a = start_items names_at pieces_at lines_at p.sources in
        let b = truth_items names_at pieces_at lines_at p.sources in
        let m = piece_items names_at pieces_at lines_at p.sources in
        let n = all_lines names_at pieces_at lines_at p.sources in
        four (kind_lines on (record { tag = codes "start"; lines = each_from (start_lines here) 0 p.sources })) (kind_lines on (record { tag = codes "truth"; lines = each_from (truth_lines here) 0 p.sources }))
        (kind_lines on (record { tag = codes "piece"; lines = each_from (piece_lines here) 0 p.sources })) (kind_lines on (record { tag = codes "line"; lines = each_from (define_lines here) 0 p.sources }))
        ∙ (λ i. starts i ++ (truths i ++ (pieces i ++ defines i)))
        ∙ sym (flat_map-append if_true a (b ++ (m ++ n)) ∙ ap (λ t. flat_map if_true a ++ t) (flat_map-append if_true b (m ++ n) ∙ ap (λ t. flat_map if_true b ++ t) (flat_map-append if_true m n)))

    items_are : IsSorted item_cmp env → All (λ (s : Source). IsRead s.read) p.sources → ((i : Item) → is_in env i ≡ true → is_named p i ≡ true)
        → items_text p on env ≡ text_of (flat_map (kind_lines on) (environment_kinds p here))
    unfolding if_true
    items_are sorted read named =
        sym (flat_kept (item_text p (is_in env) on) has_line unlined (dedup item_eq env))
        ∙ ap (flat_map (item_text p (is_in env) on)) (sym (same_items p env sorted read named))
        ∙ flat_filter (item_text p (is_in env) on) (is_in env) (all_items names_at pieces_at lines_at p.sources)
        ∙ sym kinds

pub environment_text : (p : Problem) (on : Bool) (w : Whole) → Fits p w → IsSorted item_cmp w.env → All (λ (s : Source). IsRead s.read) p.sources
    → items_text p on w.env ≡ text_of (flat_map (kind_lines on) (environment_kinds p (case_of p w)))
environment_text p on w fits sorted read = by w.values
  where
    by : (v : Values) → items_text p on w.env ≡ text_of (flat_map (kind_lines on) (environment_kinds p (record { configuration = (case_of p w).configuration; environment = environment_in v w.env })))
    by (Tree config) = items_are p on w.env (case_of p w).configuration sorted read fits.named
    by (Names names) = items_are p on w.env (case_of p w).configuration sorted read fits.named
