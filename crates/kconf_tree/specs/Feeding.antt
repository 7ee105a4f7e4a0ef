-- What the texts of outer conditions feed a hash, and a comparison in its pieces. No public contract cites
-- this module.
use Rattle.std.specs.Prelude.{◌≡◌, Bool, true, ◌&&◌, List, ◌++◌, codes}
use Rattle.std.specs.List.{flat_map}
use Rattle.std.specs.Cmp.{first_so, second_so}
use Rattle.std.specs.Hash as fed
use Rattle.ut_text.specs.Bytes.{Bytes}
use Rattle.ut_text.specs.Text.{text_eq, text_eq-exact}
use Rattle.kconf_tree.specs.declared.asked_comparison.Spelled.{Spelled}
use Rattle.kconf_tree.specs.declared.asked_comparison.AskedComparison.{AskedComparison}

-- each byte by itself
abbrev pub byte_writes : Bytes → List Bytes
byte_writes = flat_map fed.u8

-- the word between its quotes
abbrev pub spelled_text : Spelled → Bytes
spelled_text s = s.quote.now ++ s.word.now ++ s.quote.now

-- both sides and the sign, with one space between
abbrev pub asked_text : AskedComparison → Bytes
asked_text q = spelled_text q.left ++ codes " " ++ q.sign.now ++ codes " " ++ spelled_text q.right

-- the same pieces
abbrev pub spelled_eq : Spelled → Spelled → Bool
spelled_eq x y = text_eq x.quote.now y.quote.now && text_eq x.word.now y.word.now

-- likewise of both sides and the sign
abbrev pub asked_eq : AskedComparison → AskedComparison → Bool
asked_eq x y = (spelled_eq x.left y.left && text_eq x.sign.now y.sign.now) && spelled_eq x.right y.right

-- the same pieces make the same text
same_spelled : (x y : Spelled) → spelled_eq x y ≡ true → spelled_text x ≡ spelled_text y
same_spelled x y h = let q = text_eq-exact x.quote.now y.quote.now (first_so (text_eq x.quote.now y.quote.now) (text_eq x.word.now y.word.now) h) in
    let w = text_eq-exact x.word.now y.word.now (second_so (text_eq x.quote.now y.quote.now) (text_eq x.word.now y.word.now) h) in
    λ i. q i ++ w i ++ q i

pub same_asked : (x y : AskedComparison) → asked_eq x y ≡ true → asked_text x ≡ asked_text y
same_asked x y h = let front = first_so (spelled_eq x.left y.left && text_eq x.sign.now y.sign.now) (spelled_eq x.right y.right) h in
    let l = same_spelled x.left y.left (first_so (spelled_eq x.left y.left) (text_eq x.sign.now y.sign.now) front) in
    let s = text_eq-exact x.sign.now y.sign.now (second_so (spelled_eq x.left y.left) (text_eq x.sign.now y.sign.now) front) in
    let r = same_spelled x.right y.right (second_so (spelled_eq x.left y.left && text_eq x.sign.now y.sign.now) (spelled_eq x.right y.right) h) in
    λ i. l i ++ codes " " ++ s i ++ codes " " ++ r i
