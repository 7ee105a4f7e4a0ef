-- Laws of the first form: one more line is read.
use Rattle.std.proofs.Common.{◌≡◌, ℕ, ◌+◌, ◌∷◌, ◌++◌, List, append_assoc, refl, ap, sym, ◌∙◌}
use Rattle.std.specs.Prelude.{None, Some, Result, Ok, Err}
use Rattle.kconf_entries.specs.declared.entries.ConfigEntry.{ConfigEntry}
use Rattle.undertaker.specs.FirstKconfig.Form.{Reading, first_line, step, read_lines}
use Rattle.undertaker.specs.FirstKconfig.Reading.{behind}

-- entries that are read one part after another
pub joined : (front more : List ConfigEntry) (read : Result (List ConfigEntry) ℕ) → behind front (behind more read) ≡ behind (front ++ more) read
joined front more (Ok es) = ap (λ (xs : List ConfigEntry). Ok xs) (sym (append_assoc front more es))
joined front more (Err e) = refl

-- a line that is read, with the entry that it ends, leaves the rest to be read after it
pub line_read : (front new more : List ConfigEntry) (n : ℕ) (r t : Reading) (ls rest : List (List ℕ)) (l : List ℕ) (whole : Result (List ConfigEntry) ℕ)
    → ls ≡ l ∷ rest → step r.declared r.place (first_line l) ≡ Some (t, more) → new ≡ front ++ more
    → behind front (read_lines n r ls) ≡ whole → behind new (read_lines (n + 1) t rest) ≡ whole
line_read front new more n r t ls rest l whole is read kept w =
    rw kept (sym (joined front more (read_lines (n + 1) t rest)) ∙ sym (ap (behind front) (rw (is, read) refl)) ∙ w)

-- a line that the form does not allow is named
pub line_named : (front : List ConfigEntry) (n : ℕ) (r : Reading) (ls rest : List (List ℕ)) (l : List ℕ) (whole : Result (List ConfigEntry) ℕ)
    → ls ≡ l ∷ rest → step r.declared r.place (first_line l) ≡ None → behind front (read_lines n r ls) ≡ whole → whole ≡ Err n
line_named front n r ls rest l whole is read w =
    let named : read_lines n r ls ≡ Err n = rw (is, read) refl in
    sym w ∙ ap (behind front) named
