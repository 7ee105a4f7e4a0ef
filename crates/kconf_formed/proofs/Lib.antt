mod GrammarKeeps
mod FlatLaws
mod NestingLaws
mod NamesLaws
mod JoinedLaws
mod RestKeeps
mod SaidKeeps
mod PlansKeep
pub mod EntryLaws
