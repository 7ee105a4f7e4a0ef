-- Refusals: of all bad lines the first one is named, since reading ends there, and want of memory is free.
-- This project's rule.
use Rattle.std.specs.Prelude.{◌≡◌, Result, Ok, Err, List}
use Rattle.std.specs.declared.vec.Vec.{Vec}
use Rattle.std.specs.declared.alloc.Global.{Global}
use Rattle.cpp_directives.specs.declared.bad.CppBad.{CppBad}
use Rattle.cpp_directives.specs.declared.bad.CppBad.TheVariants.{Unbalanced, ElseTwice, Depth, TooMany, NoName, Condition, Unclosed, Oom}

-- a refusal is the one that reading gives, unless memory ran out
abbrev pub Fails : {Y : Type 0} → CppBad → Result Y CppBad → Type 0
Fails Oom read = Unit {0}
Fails (Unbalanced n) read = read ≡ Err (Unbalanced n)
Fails (ElseTwice n) read = read ≡ Err (ElseTwice n)
Fails (Depth n) read = read ≡ Err (Depth n)
Fails (TooMany n) read = read ≡ Err (TooMany n)
Fails (NoName n) read = read ≡ Err (NoName n)
Fails (Condition n) read = read ≡ Err (Condition n)
Fails (Unclosed n) read = read ≡ Err (Unclosed n)

-- a refusal that is no want of memory
abbrev pub IsRefusal : CppBad → Type 0
IsRefusal Oom = ⊥
IsRefusal (Unbalanced n) = Unit {0}
IsRefusal (ElseTwice n) = Unit {0}
IsRefusal (Depth n) = Unit {0}
IsRefusal (TooMany n) = Unit {0}
IsRefusal (NoName n) = Unit {0}
IsRefusal (Condition n) = Unit {0}
IsRefusal (Unclosed n) = Unit {0}

-- a call answers what reading gives, or that memory ran out
abbrev pub Answers : {Y : Type 0} → Result Y CppBad → Result Y CppBad → Type 0
Answers (Ok y) read = read ≡ Ok y
Answers (Err e) read = Fails e read

-- the same for a vector
abbrev pub AnswersList : {Y : Type 0} → Result (Vec Y Global) CppBad → Result (List Y) CppBad → Type 0
AnswersList (Ok v) read = read ≡ Ok v.items
AnswersList (Err e) read = Fails e read
