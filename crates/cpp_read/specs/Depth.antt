-- Lists of tokens at the depth of their parentheses: the parts between signs, and groups.
-- Rule: ISO C, "Expressions"; that a list is cut at all its signs of one kind is this project's.
use Rattle.std.specs.Prelude.{ℕ, suc, ◌+◌, ◌-◌, Bool, false, ◌==◌, ◌&&◌, ◌||◌, nat_lt, length, codes, List, [], ◌∷◌, if◌then◌else◌}
use Rattle.cpp_read.specs.declared.token.Token.{Token}
use Rattle.cpp_read.specs.declared.depth.Joint.{Joint}
use Rattle.cpp_read.specs.declared.depth.Joint.TheVariants as joint
use Rattle.cpp_read.specs.Signs.{is_sign, is_open, is_close}

-- the signs that parts stand between
abbrev pub joins : Joint → Token → Bool
joins joint.Pick t = is_sign (codes "?") t || is_sign (codes ",") t
joins joint.Any t = is_sign (codes "||") t
joins joint.All t = is_sign (codes "&&") t

-- the depth after a token
abbrev pub deeper : ℕ → Token → ℕ
deeper d t = if is_open t then d + 1 else if is_close t then d - 1 else d

-- a token in front of the first part
abbrev pub onto_part : Token → List (List Token) → List (List Token)
onto_part t [] = (t ∷ []) ∷ []
onto_part t (p ∷ ps) = (t ∷ p) ∷ ps

-- the parts between the signs at depth 0, from this depth on
abbrev pub parts_at : Joint → ℕ → List Token → List (List Token)
parts_at j d [] = [] ∷ []
parts_at j d (t ∷ ts) = if joins j t && d == 0 then [] ∷ parts_at j d ts else onto_part t (parts_at j (deeper d t) ts)

-- the parts of a list
abbrev pub parts : Joint → List Token → List (List Token)
parts j ts = parts_at j 0 ts

-- how many tokens stand before the first sign at depth 0
abbrev pub before_at : Joint → ℕ → List Token → ℕ
before_at j d [] = 0
before_at j d (t ∷ ts) = if joins j t && d == 0 then 0 else suc (before_at j (deeper d t) ts)

-- whether such a sign stands at depth 0
abbrev pub has : Joint → List Token → Bool
has j ts = nat_lt (before_at j 0 ts) (length ts)

-- whether the open parenthesis is closed by the last token
abbrev pub closes_at_end : ℕ → List Token → Bool
closes_at_end d [] = false
closes_at_end d (t ∷ []) = deeper d t == 0
closes_at_end d (t ∷ u ∷ ts) = if deeper d t == 0 then false else closes_at_end (deeper d t) (u ∷ ts)

-- one parenthesised group
abbrev pub is_group : List Token → Bool
is_group [] = false
is_group (t ∷ ts) = is_open t && closes_at_end 1 ts

-- parentheses match, where so many are open before these tokens
abbrev pub is_balanced : ℕ → List Token → Bool
is_balanced d [] = d == 0
is_balanced d (t ∷ ts) = if is_close t && d == 0 then false else is_balanced (deeper d t) ts
