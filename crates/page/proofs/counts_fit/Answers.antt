use Rattle.page.specs.Page.{count_of, room_of, size_of, level_of, counts_fit}
use Rattle.page.proofs.counts_fit.Goals as goal

pub returns : goal.returns
unfolding counts_fit count_of room_of size_of level_of
returns c =
    rw (
      c.level_fits.ensures,
      c.entry_size.ensures,
      c.most_room.ensures,
      c.may_be_empty.ensures,
      c.count_at-level.ensures.0,
      c.count_at-size.ensures.0,
      c.count_at-room.ensures.0,
      c.count_at-count.ensures.0,
    )
