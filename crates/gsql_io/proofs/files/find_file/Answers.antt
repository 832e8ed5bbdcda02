use Rattle.std.proofs.Common.{◌≡◌, position, rules, tests}
use Rattle.std.proofs.lemmas.Iterator.{YieldsList-from_slice}
use Rattle.std.proofs.lemmas.Iterator.Search.{position_from_yields_List}
use Rattle.gsql_io.specs.Files.{has_name}
use Rattle.gsql_io.proofs.Found.{position-bytes_of}
use Rattle.gsql_io.proofs.files.find_file.Goals as goal

pub returns : goal.returns
returns c =
    let all = YieldsList-from_slice {s = c.iter.result} c.args.files.now (cc) in
    let first : c.position.result ≡ position (has_name c.args.name.now) c.args.files.now =
    position_from_yields_List (has_name c.args.name.now) _ _ c.position.result c.position.ensures.ran all (λ file b q called. search (rules, tests)) in
    rw first (position-bytes_of c.args.name.now c.args.files.now)
