-- What proofs here name of other crates, and of this one's definitions. Declares nothing.
pub use Rattle.std.proofs.Common.{◌≡◌, ℕ, ◌+◌, ◌-◌, ◌^◌, ◌<◌, ◌≤◌, max, List, [], ◌∷◌, ◌++◌, length, take, drop, get_or, set, Option, Some, None, refl, sym, ap, ◌∙◌, subst, inl, arith, All, fold, slice_get, ◌≢◌, ◌⊎◌, inr, Contains, true}
pub use Rattle.std.proofs.lemmas.Bool.{cond_both, cases_eq, cases_lt, and_parts, or_cases, ltb-true, eqb-true, eqb-false, not-true}
pub use Rattle.std.proofs.lemmas.Bool.Decides.{nat_tests}
pub use Rattle.std.proofs.lemmas.List.{length_push, drop-append-le, take-append-drop, get_or-set_same, get_or-set_other, get_or-replicate, get_or_past, length-replicate, take_all}
pub use Rattle.std.proofs.lemmas.List.Elements.{All-drop, All-take, All-head, All-tail, All-nil, All-push, All-weaker, All-contains_itself, Contains-append_left, Contains-push, All-get_or, All-set, All-replicate, All-more}
pub use Rattle.std.proofs.lemmas.List.Sums.{fold-append, fold_more, fold_push}
pub use Rattle.std.proofs.lemmas.Option.{slice_get_within, get_or_from_slice_get}
pub use Rattle.vec_world.specs.Fresh.{Tells, TellsWord, EachLoadTells, known_at_load, logged_since, IsGenuine, HasGenuineNumbers}
pub use Rattle.vec_world.specs.Log.{IsOpen, FitsHalf, bits_after, bits_at, HasStore, IsCommitted, IsSettled, OnStoreTo, StampsUpTo, Carries}
pub use Rattle.vec_world.specs.World.{bits_of, stamp_of, word_at, known_by, start, is_open, has_word, has_pass, can_store, with_store, with_commit, with_learned, with_note, with_note_told, act, world_of, word_of, CarriesWord}
pub use Rattle.vec_world.specs.declared.step.Step.TheVariants.{Store, Commit, Load, LoadCount, Split, Join}
pub use Rattle.vec_world.specs.declared.{step.Step.Step, world.World.World}
