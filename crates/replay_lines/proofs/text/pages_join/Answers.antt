use Rattle.replay_lines.proofs.Pages.{written-joined, written-nothing, written-text, written-blank_page}
use Rattle.replay_lines.proofs.text.pages_join.Goals as goal

pub returns : goal.returns
returns c = record { joined = written-joined; nothing = written-nothing; text = written-text; blank = written-blank_page }
