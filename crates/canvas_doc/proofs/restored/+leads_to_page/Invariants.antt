use Rattle.canvas_doc.proofs.restored.+leads_to_page.Given as goal

abbrev pub decreases-leads_to_page : goal.decreases-leads_to_page
decreases-leads_to_page l = l.steps
