-- A departure while a new instance stands.
use Rattle.rebuild_copy.proofs.Imports.{◌≡◌, Bool, List, [], arith, Caps, Kind, Shape, Fits, IsNoMoreOf, Meaning, Held, items_of, Copy, IsCopyOf}

-- what needs no more by the kind's rule fits as well
fits_no_more : (of : Kind) (need other caps : Caps) → IsNoMoreOf of need other → Fits of other caps → Fits of need caps
fits_no_more Kind.Cache need other caps less fits = (omega (arith, less.0, fits.0), omega (arith, less.1, fits.1))
fits_no_more (Kind.List headers locks refs) need other caps less fits =
    (omega (arith, less.0, fits.0), omega (arith, less.1, fits.1))
fits_no_more Kind.Lock need other caps less fits = omega (arith, less, fits)

-- an empty copy is one of another content of that shape and capacity, which needs no more
pub copy_left : {C R I S : Type 0} (meaning : Meaning C R I S)
    (is_kind : Kind → Bool) (IsContent : Shape → Caps → S → Type 0) (held : Held S) (state : S) (copy : Copy I)
    → copy.items ≡ [] → IsContent held.shape held.caps state → IsNoMoreOf held.shape.kind
    (meaning.need (meaning.items held.shape state)) (meaning.need (items_of meaning held)) → IsCopyOf
    meaning is_kind IsContent copy held → IsCopyOf meaning is_kind IsContent copy (record held { state = state })
copy_left {I = I} meaning is_kind IsContent held state copy none content less is = grind (arith, fits_no_more)
