-- The rules of a site file as facts.
use Prim.Native.Nat.{ℕ, ◌+◌, ◌≤◌, ◌<◌}
use mathlib.Core.Path.{◌≡◌}
use mathlib.Core.Bool.{true, ◌&&◌}
use mathlib.Core.List.{List}
use lib.Dec.{eqb, leb}
use lib.ListN.{length}
use borrow.Author.Tests.{eqb-true, leb-true}
use Rattle.rows.proofs.BoolLaws.{and_left, and_right}
use Rattle.rows.proofs.IndexLaws.{all_at}
use Rattle.rows.specs.Words.{all, zeros}
use Rattle.site.specs.declared.PartitionRow.{PartitionRow}
use Rattle.site.specs.Layout.{users, user_offset, partitions, partition_offset, users_from, partitions_from, whole_length, partition_row, partition_spare}
use Rattle.site.specs.Rules.{good_header, name_alone, good_user, sectors, ranged, sound, number_alone, apart, good_partition, good_site}

-- a row in range
pub record Ranged (r : PartitionRow) : Type 0 where
  pub volume : r.volume.0 ≤ 3
  pub partition : r.partition.0 ≤ 63
  pub least : 1 ≤ r.size
  pub most : r.size ≤ 6
  pub ends : r.first + sectors r.size ≤ 1048576

pub ranged_is : (r : PartitionRow) → ranged r ≡ true → Ranged r
unfolding ranged
ranged_is r h =
    let v = leb r.volume.0 3 in
    let p = leb r.partition.0 63 in
    let l = leb 1 r.size in
    let m = leb r.size 6 in
    let e = leb (r.first + sectors r.size) 1048576 in
    let h₁ = and_right v (p && (l && (m && e))) h in
    let h₂ = and_right p (l && (m && e)) h₁ in
    let h₃ = and_right l (m && e) h₂ in record {
      volume = leb-true _ _ (and_left v (p && (l && (m && e))) h);
      partition = leb-true _ _ (and_left p (l && (m && e)) h₁);
      least = leb-true _ _ (and_left l (m && e) h₂);
      most = leb-true _ _ (and_left m e h₃);
      ends = leb-true _ _ (and_right m e h₃);
    }

-- a header that keeps the rules
pub record Headed (f : List ℕ) : Type 0 where
  pub few_users : users f ≤ 128
  pub few_partitions : partitions f ≤ 64
  pub users_at : user_offset f ≡ users_from
  pub partitions_at : partition_offset f ≡ partitions_from f
  pub whole : length f ≡ whole_length f

pub header_is : (f : List ℕ) → good_header f ≡ true → Headed f
unfolding good_header
header_is f h =
    let u = leb (users f) 128 in
    let p = leb (partitions f) 64 in
    let a = eqb (user_offset f) users_from in
    let b = eqb (partition_offset f) (partitions_from f) in
    let w = eqb (length f) (whole_length f) in
    let h₁ = and_right u (p && (a && (b && w))) h in
    let h₂ = and_right p (a && (b && w)) h₁ in
    let h₃ = and_right a (b && w) h₂ in record {
      few_users = leb-true _ _ (and_left u (p && (a && (b && w))) h);
      few_partitions = leb-true _ _ (and_left p (a && (b && w)) h₁);
      users_at = eqb-true _ _ (and_left a (b && w) h₂);
      partitions_at = eqb-true _ _ (and_left b w h₃);
      whole = eqb-true _ _ (and_right b w h₃);
    }

-- a partition row that keeps the rules
pub record Kept (f : List ℕ) (i : ℕ) : Type 0 where
  pub range : ranged (partition_row f i) ≡ true
  pub name : name_alone f (partitions_from f) 24 i ≡ true
  pub number : number_alone f i ≡ true
  pub apart : apart f i ≡ true

pub sound_ranged : (f : List ℕ) (i : ℕ) → sound f i ≡ true → ranged (partition_row f i) ≡ true
unfolding sound
sound_ranged f i h = and_left (ranged (partition_row f i)) (zeros (partition_spare f i)) h

pub kept : (f : List ℕ) (i : ℕ) → good_partition f i ≡ true → Kept f i
unfolding good_partition
kept f i h =
    let s = sound f i in
    let n = name_alone f (partitions_from f) 24 i in
    let v = number_alone f i in
    let o = apart f i in
    let h₁ = and_right s (n && (v && o)) h in
    let h₂ = and_right n (v && o) h₁ in record {
      range = sound_ranged f i (and_left s (n && (v && o)) h);
      name = and_left n (v && o) h₁;
      number = and_left v o h₂;
      apart = and_right v o h₂;
    }

-- a good site file, part by part
module _ (f : List ℕ) (good : good_site f ≡ true) where
  pub site_headed : good_header f ≡ true
  unfolding good_site
  site_headed = and_left (good_header f) (all (good_user f) (users f) && all (good_partition f) (partitions f)) good

  pub site_header : Headed f
  site_header = header_is f site_headed

  rest : (all (good_user f) (users f) && all (good_partition f) (partitions f)) ≡ true
  unfolding good_site
  rest = and_right (good_header f) (all (good_user f) (users f) && all (good_partition f) (partitions f)) good

  pub site_user : (i : ℕ) → i < users f → name_alone f users_from 16 i ≡ true
  site_user i l = all_at (good_user f) (users f) i (and_left (all (good_user f) (users f)) (all (good_partition f) (partitions f)) rest) l

  pub site_row : (i : ℕ) → i < partitions f → good_partition f i ≡ true
  site_row i l = all_at (good_partition f) (partitions f) i (and_right (all (good_user f) (users f)) (all (good_partition f) (partitions f)) rest) l

  pub site_partition : (i : ℕ) → i < partitions f → Kept f i
  site_partition i l = kept f i (site_row i l)
