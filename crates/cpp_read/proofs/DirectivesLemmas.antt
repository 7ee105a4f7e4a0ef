-- Laws of reading: what is left after one more line.
use Rattle.std.proofs.Common.{◌≡◌, ℕ, ◌∷◌, ◌++◌, List, [], length, append_assoc, refl, ap, sym, subst, ◌∙◌}
use Rattle.std.specs.Prelude.{Option, unwrap_or, option_to_list, Result, Ok, Err}
use Rattle.std.specs.declared.alloc.Global.{Global}
use Rattle.std.specs.declared.vec.Vec.{Vec}
use Rattle.std.proofs.lemmas.List.{append-nil, map-append}
use Rattle.std.proofs.lemmas.List.Concat.{flat_map-append}
use Rattle.ut_text.specs.Bytes.{Bytes}
use Rattle.ut_text.specs.Results.{◌>>=◌}
use Rattle.cpp_directives.specs.declared.bad.CppBad.{CppBad}
use Rattle.cpp_directives.specs.declared.directive.Directive.{Directive}
use Rattle.cpp_directives.specs.declared.directive.What.{What}
use Rattle.cpp_directives.specs.Chains.{Earlier, at_end}
use Rattle.cpp_directives.specs.Refusals.{Fails}
use Rattle.cpp_directives.specs.Stack.{ChainState, IsStackOf, Ends}
use Rattle.cpp_directives.proofs.RefusalLaws.{fails_by}
use Rattle.cpp_read.specs.declared.cursor.PlacedByte.{PlacedByte}
use Rattle.cpp_read.specs.declared.source.Source.{Source}
use Rattle.cpp_read.specs.declared.spans.LineOf.{LineOf}
use Rattle.cpp_read.specs.declared.uncommented.Found.{Found}
use Rattle.cpp_read.specs.declared.uncommented.Found.TheVariants.{End, Other, Sign}
use Rattle.cpp_read.specs.declared.uncommented.LineText.{LineText}
use Rattle.cpp_read.specs.declared.modes.Mode.TheVariants.{Code}
use Rattle.cpp_read.specs.Comments.{uncommented}
use Rattle.cpp_read.specs.Splices.{spliced_bytes}
use Rattle.cpp_read.specs.LogicalLines.{Marked, marked}
use Rattle.cpp_read.specs.LineSteps.{line_of, after_line, newline_end, line_end, marked_from, found_lines, found_end}
use Rattle.cpp_directives.specs.WellFormed.{IsWellFormed}
use Rattle.cpp_read.specs.Directives.{Read, said, span_of, read_line, read_lines, read_of, directives_in, own_span, spans_in}
use Rattle.cpp_read.specs.SpanSteps.{Keeps, ReadsLine, ReadsAll, marked_at, reads_after}
use Rattle.cpp_read.proofs.FormedLaws.{formed}
use Rattle.cpp_read.proofs.LogicalLinesLemmas.{marked_step}

lines_by : (start end : ℕ) (s : List PlacedByte) (ms : List Marked) → marked start (line_end end s) (line_of s) ≡ ms → marked_from start end s ≡ ms ++ marked_from (line_end end s) end (after_line s)
lines_by start end s ms h = marked_step start end s ∙ ap (λ (xs : List Marked). xs ++ marked_from (line_end end s) end (after_line s)) h

other_line : (front : List Read) (before : List Earlier) (start end : ℕ) (s : List PlacedByte) → marked start (line_end end s) (line_of s) ≡ []
    → reads_after front (read_lines before (marked_from start end s)) ≡ reads_after front (read_lines before (marked_from (line_end end s) end (after_line s)))
other_line front before start end s h = ap (λ (ms : List Marked). reads_after front (read_lines before ms)) (lines_by start end s [] h)

after_more : (front rs : List Read) (read : Result (List Read) CppBad) → reads_after front (reads_after rs read) ≡ reads_after (front ++ rs) read
after_more front rs (Ok es) = ap (λ (fs : List Read). Ok fs) (sym (append_assoc front rs es))
after_more front rs (Err e) = refl

-- a line that says nothing
pub other_goes : (front : List Read) (before : List Earlier) (start start' end : ℕ) (s s' : List PlacedByte) (f : Found) (text : Bytes) (ends : List ℕ) (to : Option ℕ) (whole : Result (List Read) CppBad)
    → ((a b : ℕ) → marked a b (line_of s) ≡ found_lines a b f text ends) → f ≡ Other to → found_end f ≡ newline_end s → start' ≡ unwrap_or to end → s' ≡ after_line s
    → reads_after front (read_lines before (marked_from start end s)) ≡ whole → reads_after front (read_lines before (marked_from start' end s')) ≡ whole
other_goes front before start start' end s s' f text ends to whole found is at begins rest w =
    (λ i. reads_after front (read_lines before (marked_from (line i) end (rest i))))
    ∙ (sym (other_line front before start end s (found start (line_end end s) ∙ ap (λ (g : Found). found_lines start (line_end end s) g text ends) is)) ∙ w)
  where
    line : start' ≡ line_end end s
    line = begins ∙ ap (λ o. unwrap_or o end) (sym (ap found_end is) ∙ at)

-- the line that a sign begins
one_marked : (start end : ℕ) (s : List PlacedByte) (f : Found) (text : LineText) (n : ℕ) (to : Option ℕ) (stop : ℕ)
    → ((a b : ℕ) → marked a b (line_of s) ≡ found_lines a b f text.bytes.items text.ends.items) → f ≡ Sign n to → stop ≡ line_end end s
    → marked start (line_end end s) (line_of s) ≡ marked_at start stop n text ∷ []
one_marked start end s f text n to stop found is at = found start (line_end end s)
    ∙ (ap (λ (g : Found). found_lines start (line_end end s) g text.bytes.items text.ends.items) is ∙ ap (λ k. marked_at start k n text ∷ []) (sym at))

stops : (end : ℕ) (s : List PlacedByte) (f : Found) (n : ℕ) (to : Option ℕ) (stop : ℕ) → f ≡ Sign n to → found_end f ≡ newline_end s → stop ≡ unwrap_or to end → stop ≡ line_end end s
stops end s f n to stop is at e = e ∙ ap (λ o. unwrap_or o end) (sym (ap found_end is) ∙ at)

-- a line of a directive that is refused
pub sign_fails : (e : CppBad) (front : List Read) (before : List Earlier) (start end : ℕ) (s : List PlacedByte) (f : Found) (text : LineText) (n : ℕ) (to : Option ℕ) (stop : ℕ) (whole : Result (List Read) CppBad)
    → ((a b : ℕ) → marked a b (line_of s) ≡ found_lines a b f text.bytes.items text.ends.items) → f ≡ Sign n to → found_end f ≡ newline_end s → stop ≡ unwrap_or to end
    → Fails e (read_line before n text.bytes.items) → reads_after front (read_lines before (marked_from start end s)) ≡ whole → Fails e whole
sign_fails e front before start end s f text n to stop whole found is at stop_is fails w = fails_by e (read_line before n text.bytes.items) whole
    (λ k refused. sym w
    ∙ (ap (λ (ms : List Marked). reads_after front (read_lines before ms)) (lines_by start end s (marked_at start stop n text ∷ []) (one_marked start end s f text n to stop found is (stops end s f n to stop is at stop_is)))
    ∙ ap (λ (x : Result (List Earlier × List What) CppBad). reads_after front (x >>= λ y. read_lines y.0 (marked_from (line_end end s) end (after_line s)) >>= λ rs. Ok (said (span_of (marked_at start stop n text)) y.1 ++ rs))) refused))
    fails

-- and one that says something
pub sign_goes : (front : List Read) (before more : List Earlier) (start end : ℕ) (s s' : List PlacedByte) (f : Found) (text : LineText) (n : ℕ) (to : Option ℕ) (stop : ℕ) (span : LineOf) (ws : List What) (whole : Result (List Read) CppBad)
    → ((a b : ℕ) → marked a b (line_of s) ≡ found_lines a b f text.bytes.items text.ends.items) → f ≡ Sign n to → found_end f ≡ newline_end s → stop ≡ unwrap_or to end → s' ≡ after_line s
    → read_line before n text.bytes.items ≡ Ok (more, ws) → span ≡ span_of (marked_at start stop n text)
    → reads_after front (read_lines before (marked_from start end s)) ≡ whole → reads_after (front ++ said span ws) (read_lines more (marked_from stop end s')) ≡ whole
sign_goes front before more start end s s' f text n to stop span ws whole found is at stop_is rest read span_is w =
    (λ i. reads_after (front ++ said (span_is i) ws) (read_lines more (marked_from (here i) end (rest i))))
    ∙ (sym (after_more front (said (span_of (marked_at start stop n text)) ws) (read_lines more (marked_from (line_end end s) end (after_line s))))
    ∙ (sym (ap (λ (x : Result (List Earlier × List What) CppBad). reads_after front (x >>= λ y. read_lines y.0 (marked_from (line_end end s) end (after_line s)) >>= λ rs. Ok (said (span_of (marked_at start stop n text)) y.1 ++ rs))) read)
    ∙ (sym (ap (λ (ms : List Marked). reads_after front (read_lines before ms)) (lines_by start end s (marked_at start stop n text ∷ []) (one_marked start end s f text n to stop found is (stops end s f n to stop is at stop_is)))) ∙ w)))
  where
    here : stop ≡ line_end end s
    here = stops end s f n to stop is at stop_is

-- the end of the text
pub ends_well : (front : List Read) (before : List Earlier) (start end : ℕ) (s : List PlacedByte) (whole : Result (List Read) CppBad) → s ≡ [] → at_end before ≡ Ok before
    → reads_after front (read_lines before (marked_from start end s)) ≡ whole → whole ≡ Ok (front ++ [])
ends_well front before start end s whole none closed w = sym w ∙ (ap (λ (t : List PlacedByte). reads_after front (read_lines before (marked_from start end t))) none
    ∙ ap (λ (r : Result (List Earlier) CppBad). reads_after front (r >>= λ b. Ok [])) closed)

pub ends_badly : (e : CppBad) (front : List Read) (before : List Earlier) (start end : ℕ) (s : List PlacedByte) (whole : Result (List Read) CppBad) → s ≡ [] → Fails e (at_end before)
    → reads_after front (read_lines before (marked_from start end s)) ≡ whole → Fails e whole
ends_badly e front before start end s whole none fails w = fails_by e (at_end before) whole
    (λ k is. sym w ∙ (ap (λ (t : List PlacedByte). reads_after front (read_lines before (marked_from start end t))) none
    ∙ ap (λ (r : Result (List Earlier) CppBad). reads_after front (r >>= λ b. Ok [])) is))
    fails

-- ---- what is kept

directives-append : (xs ys : List Read) → directives_in (xs ++ ys) ≡ directives_in xs ++ directives_in ys
directives-append xs ys = map-append (λ (r : Read). r.directive) xs ys

spans-append : (xs ys : List Read) → spans_in (xs ++ ys) ≡ spans_in xs ++ spans_in ys
spans-append xs ys = flat_map-append (λ (r : Read). own_span r.directive.what r.span) xs ys

-- one more directive is kept with its line
pub keeps_more : (ds : Vec Directive Global) (ss : Vec LineOf Global) (source : Source) (rs : List Read) (w : What) (span : LineOf) → ds.items ≡ source.directives.items ++ record { line = span.line; what = w } ∷ []
    → ss.items ≡ source.spans.items ++ own_span w span → Keeps source rs → Keeps (record { directives = ds; spans = ss }) (rs ++ said span (w ∷ []))
keeps_more ds ss source rs w span d s k = record {
  directives = d ∙ (ap (λ (xs : List Directive). xs ++ record { line = span.line; what = w } ∷ []) k.directives ∙ sym (directives-append rs (said span (w ∷ []))));
  spans = s ∙ (ap (λ (xs : List LineOf). xs ++ own_span w span) k.spans ∙ (ap (λ (xs : List LineOf). spans_in rs ++ xs) (sym (append-nil (own_span w span))) ∙ sym (spans-append rs (said span (w ∷ [])))));
}

-- what is kept of a text is well formed
pub formed_source : (source : Source) (bytes : Bytes) → ReadsAll (Ok source) (read_of bytes) → IsWellFormed source.directives.items
formed_source source bytes h = subst IsWellFormed (sym h.2.directives) (formed bytes h.0 h.1)

reads_none : (read : Result (List Read) CppBad) → reads_after [] read ≡ read
reads_none (Ok rs) = refl
reads_none (Err e) = refl

-- before the first line all is left
pub begins_well : (bytes : Bytes) (last : ℕ) (s : List PlacedByte) → last ≡ length bytes → s ≡ uncommented Code (spliced_bytes 0 1 bytes) → reads_after [] (read_lines [] (marked_from 0 last s)) ≡ read_of bytes
begins_well bytes last s e is = reads_none (read_lines [] (marked_from 0 last s)) ∙ (λ i. read_lines [] (marked_from 0 (e i) (is i)))

-- after the last line all is read
pub all_read : (source : Source) (front : List Read) (before : List Earlier) (start end : ℕ) (s : List PlacedByte) (whole : Result (List Read) CppBad) → Keeps source front → s ≡ [] → at_end before ≡ Ok before
    → reads_after front (read_lines before (marked_from start end s)) ≡ whole → ReadsAll (Ok source) whole
all_read source front before start end s whole keeps none closed w = (front ++ [], ends_well front before start end s whole none closed w, subst (Keeps source) (sym (append-nil front)) keeps)
