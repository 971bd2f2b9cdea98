use Rattle.wt_strip.proofs.Written.{strip_written}
use Rattle.wt_strip.proofs.text.push_strip.Goals as goal

pub returns : goal.returns
returns c =
    strip_written c.args.layers.now c.as_slice-list.result.now c.args.out.now.items c.push_head.new.out.items c.push_layers.new.out.items c.push_end.new.out.items c.as_slice-list.ensures
    (c.in_ok-push_head.ensures {u = tt}) (c.in_ok-push_layers.ensures {u = tt}) (c.in_ok-push_end.ensures {u = tt})
