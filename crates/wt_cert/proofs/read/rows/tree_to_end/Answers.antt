use Rattle.std.proofs.Common.{rules, ◌≡◌, true}
use Rattle.wt_line.specs.declared.faults.LineFault.TheVariants.{Past}
use Rattle.wt_line.specs.Given.{left}
use Rattle.wt_cert.specs.Trees.{is_tree}
use Rattle.wt_cert.proofs.TreeLines.{tree_past}
use Rattle.wt_cert.proofs.read.rows.tree_to_end.Goals as goal

pub returns-else-not-tree_form-clause-read : goal.returns-else-not-tree_form-clause-read
returns-else-not-tree_form-clause-read c =
    let form : is_tree c.args.citing (left c.args.rest.more c.args.rest.line.now) ≡ true = search rules in
    let fault : c.in-Err-Past.field-0 ≡ Past c.in-Err-Past.what = search rules in
    tree_past c.in-Err-Past.field-0 c.args.citing c.args.nodes (left c.args.rest.more c.args.rest.line.now) c.in-Err-Past.what fault form c.in-Err-Past.ensures.read
