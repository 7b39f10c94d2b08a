use Rattle.std.proofs.Common.{◌≡◌, ◌∷◌, false, is_some, length, nat_eq, ◌∙◌, ap, arith}
use Rattle.lru.specs.LruCache.{put_entries}
use Rattle.hs_cache.specs.declared.frames.Frame.{Frame}
use Rattle.hs_cache.specs.Held.{Held, frame_of}
use Rattle.hs_cache.proofs.Entries.{added_is}
use Rattle.hs_cache.proofs.frames.Frames.add.Goals as goal

pub returns-clause-ok : goal.returns-clause-ok
returns-clause-ok c =
    let fresh : is_some (frame_of c.args.p.0 c.self.inside.cache.entries) ≡ false = ap (λ (held : Held). is_some (frame_of c.args.p.0 held.pages)) c.self.view_is ∙ c.requires.new in
    let long : length c.self.inside.cache.entries ≡ length c.args.self.now.pages = ap (λ (held : Held). length held.pages) c.self.view_is in
    let cap : c.self.inside.cache.cap ≡ c.args.self.now.limit = ap (λ (held : Held). held.limit) c.self.view_is in
    ap (λ cache. cache.entries) c.in_ok-put.ensures.entries
    ∙ ap (λ (x : Frame). put_entries nat_eq c.self.inside.cache c.args.p.0 x) c.new.ensures
    ∙ added_is c.self.inside.cache c.args.p.0 (record { page = c.args.page; dirty = false }) fresh (omega (arith, long, cap, c.requires.free))
    ∙ ap (λ (held : Held). (c.args.p.0, record { page = c.args.page; dirty = false }) ∷ held.pages) c.self.view_is
