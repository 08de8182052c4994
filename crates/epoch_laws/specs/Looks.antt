-- What a look at a stack still says: while the head is the word that was read, the object on top has the next word that was read.
use Rattle.std.proofs.Common.{◌≡◌, ◌≢◌, ℕ, ◌<◌, ◌≤◌}
use Rattle.pool_core.specs.declared.free_words.FreeWord.{FreeWord}
use Rattle.epoch_laws.specs.Places.{Place}
use Rattle.epoch_laws.specs.Seats.{StackLook, NoLook, NextRead}
use Rattle.epoch_laws.specs.StackSteps.{looked_top}

pub record IsLook (locales : ℕ) (free_head : ℕ → FreeWord) (next : Place → ℕ) (look : StackLook) : Type 0 where
  pub locale : look.phase ≢ NoLook → look.locale < locales
  pub most : look.phase ≢ NoLook → look.head.count ≤ (free_head look.locale).count
  pub same : look.phase ≢ NoLook → look.head.count ≡ (free_head look.locale).count → look.head ≡ free_head look.locale
  pub index : look.phase ≡ NextRead → look.head.index ≢ 0
  pub next_read : look.phase ≡ NextRead → look.head.count ≡ (free_head look.locale).count → look.next ≡ next (looked_top look)

abbrev pub AreLooks : ℕ → (ℕ → StackLook) → (ℕ → FreeWord) → (Place → ℕ) → Type 0
AreLooks locales looks free_head next = (c : ℕ) → IsLook locales free_head next (looks c)
