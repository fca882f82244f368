use Rattle.git_algebra.proofs.Products.{lead_of-multiplied, total_degree-lead, total_degree-multiplied}
use Rattle.git_algebra.proofs.leads_multiply.Goals as goal

pub returns : goal.returns
returns c = record { product = lead_of-multiplied; degree_is_of_lead = total_degree-lead; degrees_add = total_degree-multiplied }
