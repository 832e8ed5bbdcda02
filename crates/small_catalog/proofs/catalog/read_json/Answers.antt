use Rattle.std.proofs.lemmas.Bool.{false≢true}
use Rattle.serde_json.specs.View.{view}
use Rattle.small_catalog.proofs.ViewLaws.{json_of-read, json_of-none}
use Rattle.small_catalog.proofs.catalog.read_json.Goals as goal

pub returns-in-Ok-clause-ok : goal.returns-in-Ok-clause-ok
returns-in-Ok-clause-ok c = json_of-read c.args.bytes.now (view c.in-Ok.value) c.in-Ok.ensures.ok.0 c.in-Ok.ensures.ok.1

pub returns-else-is_memory-clause-other : goal.returns-else-is_memory-clause-other
returns-else-is_memory-clause-other c = λ other. json_of-none c.args.bytes.now (c.in-Err.ensures.err (λ memory. false≢true (c.if-is_memory.ensures.1 memory)))
