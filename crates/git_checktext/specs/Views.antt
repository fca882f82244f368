-- The check text that the values of the code stand for.
use Rattle.git_listing.specs.Views.{listing_of}
use Rattle.git_certtext.specs.Blocks.{blocks_of}
use Rattle.git_checktext.specs.CheckText.{CheckText}
use Rattle.git_checktext.specs.declared.text.CheckText as code

abbrev pub text_of : code.CheckText → CheckText
text_of x = record { input = x.input; listing = listing_of x.listing; certs = blocks_of x.certs.items; before_listing = x.before_listing; before_certs = x.before_certs }
