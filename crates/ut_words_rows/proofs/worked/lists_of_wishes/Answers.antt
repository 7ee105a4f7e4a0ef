use Rattle.ut_words_rows.proofs.WorkedLists.{black_list, white_list}
use Rattle.ut_words_rows.proofs.worked.lists_of_wishes.Goals as goal

pub returns-clause-white : goal.returns-clause-white
returns-clause-white c = white_list

pub returns-clause-black : goal.returns-clause-black
returns-clause-black c = black_list
