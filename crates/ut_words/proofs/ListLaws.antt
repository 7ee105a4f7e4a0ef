-- A list of a kind has one reading, and is read line by line.
use Rattle.std.proofs.Common.{◌≡◌, ◌∙◌, ap, sym, subst, refl, ℕ, ◌+◌, ◌-◌, ◌≤◌, length, List, [], ◌∷◌, ◌++◌, Bool, true, false, not, arith, if◌then◌else◌}
use Rattle.std.specs.Str.{IsUtf8}
use Rattle.std.proofs.lemmas.Bool.{false≢true, not-false, not-true}
use Rattle.std.proofs.lemmas.List.{length-append, length_push}
use Rattle.line_texts.specs.Lines.{lines_of}
use Rattle.line_texts.proofs.GrammarLaws.{IsExact, never_both, says_once}
use Rattle.ut_text.specs.Bytes.{Bytes}
use Rattle.ut_words.specs.declared.lists.ListBad.{ListBad}
use Rattle.ut_words.specs.declared.lists.ListBad.TheVariants.{Line, Oom}
use Rattle.ut_words.specs.declared.wishes.ListKind.{ListKind}
use Rattle.ut_words.specs.declared.wishes.ListWish.{ListWish}
use Rattle.ut_words.specs.Lists.{Ends, IsFirstOutside, IsLineOf, IsList, Kept, Takes, TakesLine, is_skipped, nothing_kept, wishes_of, with_line}
use Rattle.ut_words.specs.Values.{is_one_of}
use Rattle.ut_words.proofs.ListLines.{line_text, wish_once}

leads : (kind : ListKind) (skipped : Bool) (s : Kept) (line : Bytes) (m k : Kept) → TakesLine kind skipped s line m → TakesLine kind skipped s line k → m ≡ k
leads kind true s line m k t u = t ∙ sym u
leads kind false s line m k (w, h, e) (v, g, f) = e ∙ ap (λ z. with_line line z s) (wish_once kind line w v h g) ∙ sym f

pub list_exact : (kind : ListKind) → IsExact (Takes kind) Ends
list_exact kind = record {
  leads = λ s x xs m k t u. leads kind (is_skipped x) s x m k t u;
  says = λ s a b h k. h ∙ sym k;
}

-- a text that is a list isn't refused
pub bad_is_oom : (kind : ListKind) (bytes : Bytes) (bad : ListBad) → ((number : ℕ) → bad ≡ Line number → IsFirstOutside kind bytes number) → (wishes : List ListWish) → IsList kind bytes wishes → bad ≡ Oom
bad_is_oom kind bytes Oom outside wishes h = refl
bad_is_oom kind bytes (Line number) outside wishes h =
    absurd (never_both (Takes kind) Ends (list_exact kind) nothing_kept (lines_of bytes) wishes (number - 1) h (outside number refl).1)

-- and has these wishes and no others
pub list_once : (kind : ListKind) (bytes : Bytes) (xs ys : List ListWish) → IsList kind bytes xs → IsList kind bytes ys → xs ≡ ys
list_once kind bytes xs ys h k = says_once (Takes kind) Ends (list_exact kind) nothing_kept (lines_of bytes) xs ys h k

-- a line that is skipped changes nothing
pub skipped_taken : (kind : ListKind) (skipped : Bool) (s : Kept) (line : Bytes) → true ≡ skipped → TakesLine kind skipped s line s
skipped_taken kind skipped s line e = subst (λ b. TakesLine kind b s line s) e refl

-- of the others, bytes that aren't text are no line of a list
pub not_text : (kind : ListKind) (skipped : Bool) (s : Kept) (line : Bytes) → false ≡ skipped → ¬ IsUtf8 line → (next : Kept) → ¬ TakesLine kind skipped s line next
not_text kind true s line e none next t = false≢true e
not_text kind false s line e none next (w, h, leads) = none (line_text kind line w h)

-- nor is a line without a wish
pub not_wish : (kind : ListKind) (skipped : Bool) (s : Kept) (line : Bytes) → false ≡ skipped → ((w : ListWish) → ¬ IsLineOf kind line w) → (next : Kept) → ¬ TakesLine kind skipped s line next
not_wish kind true s line e none next t = false≢true e
not_wish kind false s line e none next (w, h, leads) = none w h

-- a line with a wish is
pub wish_taken : (kind : ListKind) (skipped : Bool) (s next : Kept) (line text : Bytes) (w : ListWish) → false ≡ skipped → IsLineOf kind line w → text ≡ line → next ≡ with_line text w s → TakesLine kind skipped s line next
wish_taken kind true s next line text w e h same leads = absurd (false≢true e)
wish_taken kind false s next line text w e h same leads = (w, h, leads ∙ ap (λ l. with_line l w s) same)

-- one wish more at most
with_line-length : (line : Bytes) (w : ListWish) (s : Kept) → length (with_line line w s).wishes ≤ length s.wishes + 1
with_line-length line w s = by (is_one_of s.lines line)
  where
    by : (b : Bool) → length (if b then s else record { lines = s.lines ++ line ∷ []; wishes = s.wishes ++ w ∷ [] }).wishes ≤ length s.wishes + 1
    by true = omega arith
    by false = omega (arith, length_push s.wishes w)

pub one_more : (kind : ListKind) (skipped : Bool) (s next : Kept) (line : Bytes) → TakesLine kind skipped s line next → length next.wishes ≤ length s.wishes + 1
one_more kind true s next line t = subst (λ (k : Kept). length k.wishes ≤ length s.wishes + 1) (sym t) (omega arith)
one_more kind false s next line (w, h, e) = subst (λ (k : Kept). length k.wishes ≤ length s.wishes + 1) (sym e) (with_line-length line w s)
