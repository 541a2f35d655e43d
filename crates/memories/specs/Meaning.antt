-- What a memory means: how many pages it has, and the byte in each cell. Assumes nothing.
--
--   Meaning   a number of pages, and the byte at a page and an offset
--   Sound     at most 65,536 pages, each byte below 256, and 0 where there is no cell
--   filled    so many pages as there may be, filled from a source
--   poked     one cell set
use Rattle.std.specs.Prelude.{◌≡◌, ℕ, ◌%◌, ◌^◌, ◌<◌, ◌≤◌, min, cond, ◌&&◌, ◌⊎◌, ◌==◌, nat_lt}

pub record Meaning : Type 0 where
  pub pages : ℕ
  pub byte : ℕ → ℕ → ℕ

pub record Sound (memory : Meaning) : Type 0 where
  pub few : memory.pages ≤ 2 ^ 16
  pub small : (page offset : ℕ) → memory.byte page offset < 256
  pub outside : (page offset : ℕ) → (memory.pages ≤ page) ⊎ (256 ≤ offset) → memory.byte page offset ≡ 0

-- at most 65,536 of the pages; each cell has the source's byte
abbrev pub filled : ℕ → (ℕ → ℕ → ℕ) → Meaning
filled count source = record {
  pages = min count (2 ^ 16);
  byte = λ page offset. cond (nat_lt page (min count (2 ^ 16)) && nat_lt offset 256) (source page offset % 256) 0;
}

-- the cell at a page and an offset set, all else as it was
abbrev pub poked : Meaning → ℕ → ℕ → ℕ → Meaning
poked memory page offset value = record {
  pages = memory.pages;
  byte = λ p o. cond (p == page && o == offset) value (memory.byte p o);
}
