-- A refusal of a part is that of the whole.
use Rattle.std.proofs.Common.{◌≡◌, false, ap}
use Rattle.std.specs.Prelude.{Result, Err, is_ok}
use Rattle.cpp_directives.specs.declared.bad.CppBad.{CppBad}
use Rattle.cpp_directives.specs.declared.bad.CppBad.TheVariants.{Unbalanced, ElseTwice, Depth, TooMany, NoName, Condition, Unclosed, Oom}
use Rattle.cpp_directives.specs.Refusals.{Fails, IsRefusal}

pub fails_by : {Y Z : Type 0} (e : CppBad) (read : Result Y CppBad) (whole : Result Z CppBad) → ((k : CppBad) → read ≡ Err k → whole ≡ Err k) → Fails e read → Fails e whole
fails_by Oom read whole f h = tt
fails_by (Unbalanced n) read whole f h = f (Unbalanced n) h
fails_by (ElseTwice n) read whole f h = f (ElseTwice n) h
fails_by (Depth n) read whole f h = f (Depth n) h
fails_by (TooMany n) read whole f h = f (TooMany n) h
fails_by (NoName n) read whole f h = f (NoName n) h
fails_by (Condition n) read whole f h = f (Condition n) h
fails_by (Unclosed n) read whole f h = f (Unclosed n) h

-- what is refused is no answer
pub refused_is_none : {Y : Type 0} (e : CppBad) (read : Result Y CppBad) → IsRefusal e → Fails e read → is_ok read ≡ false
refused_is_none Oom read r h = absurd r
refused_is_none (Unbalanced n) read r h = ap is_ok h
refused_is_none (ElseTwice n) read r h = ap is_ok h
refused_is_none (Depth n) read r h = ap is_ok h
refused_is_none (TooMany n) read r h = ap is_ok h
refused_is_none (NoName n) read r h = ap is_ok h
refused_is_none (Condition n) read r h = ap is_ok h
refused_is_none (Unclosed n) read r h = ap is_ok h
