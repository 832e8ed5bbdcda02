use Rattle.sql_strings.proofs.CharLaws.{cut-says, cut-shorter, cut-utf8}
use Rattle.sql_strings.proofs.search.cut_text.Goals as goal

pub returns : goal.returns
returns c = record {
  pieces = cut-says c.args.separator.now c.args.text.now c.split_once.result c.utf8.separator c.utf8.text c.requires c.split_once.ensures.cases;
  shorter = cut-shorter c.args.separator.now c.args.text.now c.split_once.result c.requires c.split_once.ensures.cases;
  utf8 = cut-utf8 c.args.separator.now c.args.text.now c.split_once.result c.utf8.separator c.utf8.text c.split_once.ensures.cases;
}
