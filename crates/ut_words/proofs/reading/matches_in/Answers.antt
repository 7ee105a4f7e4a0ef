use Rattle.std.proofs.Common.{map}
use Rattle.clap.specs.Words.{found_of, rows_of}
use Rattle.ut_words.proofs.Holding.{said_where_parsed, refusal_where_refused}
use Rattle.ut_words.proofs.reading.matches_in.Goals as goal

pub returns-in-Ok : goal.returns-in-Ok
returns-in-Ok c = said_where_parsed (map (λ t. t.now) c.args.texts.now) (rows_of (found_of c.in-Ok.matches)) c.requires c.in-Ok.ensures

pub returns-in-Err : goal.returns-in-Err
returns-in-Err c =
    refusal_where_refused (map (λ t. t.now) c.args.texts.now) c.in-Err.error c.refusal.result c.requires c.in-Err.ensures c.refusal.ensures.memory c.refusal.ensures.words
