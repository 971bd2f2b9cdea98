use Rattle.std.proofs.Common.{refl, append_assoc}
use Rattle.wt_pattern.proofs.writing.put_tile.Goals as goal

pub returns-clause-ok : goal.returns-clause-ok
returns-clause-ok c =
    rw (c.in_ok-end_line.ensures.ok, c.in_ok-bytes_behind-3.ensures.ok, c.in_ok-bytes_behind-2.ensures.ok, c.in_ok-bytes_behind.ensures.ok, c.in_ok-extend_from_slice.ensures.items, c.name_of.ensures, c.name_of-2.ensures, c.name_of-3.ensures, c.name_of-4.ensures) (simp append_assoc refl)
