use Rattle.cf_books.proofs.room.put_room.Goals as goal

pub returns : goal.returns
returns c = rw (← c.room_of-room.ensures.value) c.put_counts.ensures
