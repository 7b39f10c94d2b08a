-- What entries stand for.
use Rattle.hs_turns.specs.Turns.{whole_text}
use Rattle.hs_turns.specs.Waiting.{Entry}
use Rattle.hs_queue.specs.declared.entry.Entry.{Entry as Held}
use Rattle.hs_queue.specs.declared.lanes.Ticketed.{Ticketed}
use Rattle.hs_queue.specs.Lanes.{Queued}

abbrev pub entry_of : Held → Entry
entry_of entry = record { number = entry.number; session = entry.session.0; text = whole_text entry.name entry.text }

abbrev pub queued_of : Ticketed → Queued
queued_of t = record { ticket = t.ticket; entry = entry_of t.entry }
