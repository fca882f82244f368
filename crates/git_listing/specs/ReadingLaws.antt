-- What holds of reading listings.
use Rattle.std.specs.Prelude.{◌≡◌, ◌⊎◌, ℕ, List, ◌++◌, Ok}
use Rattle.git_lines.specs.declared.fault.FormKind.{FormKind}
use Rattle.git_lines.specs.Lines.{RestOfText, text_from}
use Rattle.git_listing.specs.Limits.{FitsListing}
use Rattle.git_listing.specs.Listings.{Listing, FitsVersion}
use Rattle.git_listing.specs.ListingReading.{listing_at, IsFirstFault}
use Rattle.git_listing.specs.ListingText.{listing_text}

-- the bytes begin with the text of this listing, which is within the limits
pub record IsFront (bytes : List ℕ) (l : Listing) : Type 0 where
  pub rest : List ℕ
  pub fits : FitsListing l
  pub is : bytes ≡ listing_text l ++ rest

-- a listing that is printed is read back, whatever follows
abbrev pub PrintedListingsAreReadBack : Type 0
PrintedListingsAreReadBack = (l : Listing) (rest : List ℕ) → FitsListing l → (after : RestOfText) × (listing_at (text_from 1 0 (listing_text l ++ rest)) ≡ Ok (l, after))

-- bytes begin with the text of one listing at most
abbrev pub OneListing : Type 0
OneListing = (bytes : List ℕ) (l m : Listing) → IsFront bytes l → IsFront bytes m → l ≡ m

-- bytes begin with the text of a listing, or have a first fault
abbrev pub ListingOrFirstFault : Type 0
ListingOrFirstFault = (bytes : List ℕ) → ((l : Listing) × IsFront bytes l) ⊎ ((line : ℕ) × (kind : FormKind) × IsFirstFault bytes line kind)

-- and not both
abbrev pub ListingsHaveNoFault : Type 0
ListingsHaveNoFault = (bytes : List ℕ) (l : Listing) (line : ℕ) (kind : FormKind) → IsFront bytes l → IsFirstFault bytes line kind → ⊥

-- a listing within the limits fits its version, so that it may be printed
abbrev pub ListingsWithinLimitsMayBePrinted : Type 0
ListingsWithinLimitsMayBePrinted = (l : Listing) → FitsListing l → FitsVersion l
