use Rattle.kconf_statements.proofs.PlaceLaws.{after_nothing}
use Rattle.kconf_statements.proofs.reader.attribute_says.Goals as goal

pub returns-in-Nothing : goal.returns-in-Nothing
returns-in-Nothing c = rw c.in-Nothing.is (after_nothing c.args.attribute c.args.words.now)

pub returns-in-Config : goal.returns-in-Config
returns-in-Config c = rw c.in-Config.is c.says_of_config.ensures

pub returns-in-Choice : goal.returns-in-Choice
returns-in-Choice c = rw c.in-Choice.is c.says_of_choice.ensures

pub returns-in-Menu : goal.returns-in-Menu
returns-in-Menu c = rw c.in-Menu.is c.says_of_menu.ensures

pub returns-in-Comment : goal.returns-in-Comment
returns-in-Comment c = rw c.in-Comment.is c.says_of_comment.ensures
