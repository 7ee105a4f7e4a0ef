-- What a reader of a line answers: what reading gives, or its first fault; want of memory may come in its place.
use Rattle.std.specs.Prelude.{◌≡◌, Result, Ok, Err}
use Rattle.kconf_words.specs.declared.line_bad.LineBad.{LineBad}
use Rattle.kconf_words.specs.declared.line_bad.LineBad.TheVariants.{Syntax, Macro, Depth, Oom}

-- a refusal is the one that reading gives, unless there is not enough memory
abbrev pub Fails : {A : Type 0} → LineBad → Result A LineBad → Type 0
Fails (Syntax kind) read = read ≡ Err (Syntax kind)
Fails Macro read = read ≡ Err Macro
Fails (Depth what) read = read ≡ Err (Depth what)
Fails Oom read = Unit {0}

-- an answer is what reading gives
abbrev pub Gives : {A : Type 0} → Result A LineBad → Result A LineBad → Type 0
Gives (Ok x) read = read ≡ Ok x
Gives (Err e) read = Fails e read
