use Rattle.std.proofs.Common.{sym, ◌∙◌, ap}
use Rattle.hs_page.specs.Pages.{slot_count}
use Rattle.hs_page.proofs.SlotLists.{length-slots_of}
use Rattle.hs_page.proofs.page.Page.slot_count.Goals as goal

pub returns : goal.returns
returns c = c.number.ensures.value ∙ ap slot_count c.self.view_is ∙ sym (length-slots_of c.args.self.now)
