-- What the traits of the outside say of their counts.
use Rattle.std.specs.Prelude.{◌≡◌, ℕ, ◌+◌, ◌-◌, ◌^◌, ◌<◌, ◌⊎◌, min, Bool, if◌then◌else◌}

-- The count rose from one number to the other, or stands at the counter's last value.
abbrev pub Rose : ℕ → ℕ → Type 0
Rose before after = (before < after) ⊎ (after ≡ 2 ^ 64 - 1)

-- One more, up to the counter's last value.
abbrev pub next_number : ℕ → ℕ
next_number n = min (n + 1) (2 ^ 64 - 1)

-- The count after a call that did or did not fail.
abbrev pub count_after : Bool → ℕ → ℕ
count_after failed n = if failed then next_number n else n
