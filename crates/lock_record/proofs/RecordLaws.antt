-- Record data stay in order, with those of a connector for a resource once.
use Rattle.lock_record.proofs.Imports.{arith, ◌≡◌, Bool, true, not, ◌&&◌, List, filter, refl, ap, ◌∙◌, and_from, not-true, same_part_comm, list_all_weaker, list_all-filter_same, list_all_always, FindsPlace, pairwise-filter, pairwise-insertion, pairwise-insertion_any, Record, is_record, part_of, records_with, records_without, stands_before, in_order, are_apart, AreRecords}
use Rattle.lock_record.proofs.PartLaws.{part_order}

pub records-filter : (q : Record → Bool) (records : List Record) → AreRecords records → AreRecords (filter q records)
records-filter q records is = grind (arith, pairwise-filter)

pub finds_place : (new : Record) → FindsPlace in_order (λ other. stands_before other new) (λ other. true) new
finds_place new = record {
  front = λ other h. ap not (part_order.asym (part_of other) (part_of new) h);
  stop = λ other h e. ap not e;
  follows = λ y z h e. ap not (part_order.follows (part_of new) (part_of y) (part_of z)
      (not-true (stands_before y new) h) (not-true (stands_before z y) e));
}

pub apart_both : (new other : Record) → not (is_record new.r new.conn other) ≡ true → are_apart new other
    && are_apart other new ≡ true
apart_both new other h = and_from (are_apart new other)
    (are_apart other new) (ap not (same_part_comm (new.r, new.conn) (other.r, other.conn)) ∙ h) h

pub records-with : (new : Record) (records : List Record) → AreRecords records → AreRecords (records_with new records)
records-with new records is =
    let others = records_without new.r new.conn records in
    let kept = records-filter (λ other. not (is_record new.r new.conn other)) records is in
    record {
      ordered = pairwise-insertion in_order (λ other. stands_before other new) (λ other. true) new
          others (finds_place new) (list_all_always (λ (other : Record). true) (λ other. refl) others) kept.ordered;
      one_each = pairwise-insertion_any are_apart (λ other. stands_before other new) new others
          kept.one_each (list_all_weaker (λ other. not (is_record new.r new.conn other)) (λ other. are_apart new
          other && are_apart other new) (apart_both new) others (grind (arith, list_all-filter_same)));
    }
