mod DeniedLaws
mod FlowEntries
