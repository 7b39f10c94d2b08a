use Rattle.std.proofs.Common.{◌≡◌, ℕ, List, ◌∙◌, ap, arith}
use Rattle.hs_page.specs.Pages.{slots_of, room_of}
use Rattle.hs_page.proofs.SlotLists.{room_is}
use Rattle.hs_page.proofs.page.Page.room.Goals as goal

pub returns-clause-room : goal.returns-clause-room
returns-clause-room c =
    let is : c.saturating_sub.result ≡ room_of (slots_of c.self.inside.bytes) =
    omega (arith, c.saturating_sub.ensures, c.max-count.ensures, c.number.ensures.value, c.bytes_of_rows.ensures.sum, room_is c.self.inside.bytes c.first_free.result c.first_free.ensures.first)
    in
    is ∙ ap (λ (bytes : List ℕ). room_of (slots_of bytes)) c.self.view_is
