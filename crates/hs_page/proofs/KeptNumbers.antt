-- Numbers that a write leaves.
use Rattle.std.proofs.Common.{◌≡◌, ◌≢◌, ℕ, ◌+◌, ◌*◌, ◌<◌, ◌≤◌, List, get_or, ap, ◌∙◌, arith}
use Rattle.hs_page.specs.Pages.{number_at}

pub same_number : (new old : List ℕ) (q : ℕ) → get_or new q 0 ≡ get_or old q 0 → get_or new (q + 1) 0 ≡ get_or old (q + 1) 0 → number_at new q ≡ number_at old q
same_number new old q first second = ap (λ (n : ℕ). 256 * n + get_or new (q + 1) 0) first ∙ ap (λ (n : ℕ). 256 * get_or old q 0 + n) second

-- a number that doesn't meet the one that was written
pub kept_number : (new old : List ℕ) (at : ℕ) → ((k : ℕ) → k ≢ at → k ≢ at + 1 → get_or new k 0 ≡ get_or old k 0) → (q : ℕ) → q ≢ at → q + 1 ≢ at → q ≢ at + 1 → number_at new q ≡ number_at old q
kept_number new old at others q a b d = same_number new old q (others q a d) (others (q + 1) b (omega arith))
